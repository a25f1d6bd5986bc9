use Rattle.std.proofs.Common.{◌∙◌, ap, sym, arith}
use Rattle.std.proofs.lemmas.Result.{err_from_is_err_and}
use Rattle.layout_laws.specs.Abis.{rules}
use Rattle.readiness_calls.specs.PollEntries.{checked}
use Rattle.readiness_calls.proofs.EntryTurns.{next_read, next_refused, no_more}
use Rattle.readiness_calls.proofs.polls.check_entries.Goals as goal

pub returns-in_err-_entry : goal.returns-in_err-_entry
returns-in_err-_entry g c =
    let p = err_from_is_err_and c.from_residual.result c.from_residual.ensures.1 in
    let refused = next_refused (rules g.A.Compat.KIND g.A.Abi.ALIGN64) c.args.memory.now c.args.at c.loop-place.place c.args.count _ _ (omega arith) (omega (arith, c.from.ensures, c.from-in-loop-place.ensures)) c.in_err-_entry.ensures in
    rw (p.1, p.2) (sym refused ∙ c.loop-place.invariant)

pub loop-place-preserved : goal.loop-place-preserved
loop-place-preserved g c =
    sym (next_read (rules g.A.Compat.KIND g.A.Abi.ALIGN64) c.args.memory.now c.args.at c.loop-place.place c.args.count _ _ (omega arith) (omega (arith, c.from.ensures, c.from-in-loop-place.ensures)) c.in_ok-_entry.ensures)
    ∙ c.loop-place.invariant

pub returns : goal.returns
returns g c =
    sym (ap checked (no_more (rules g.A.Compat.KIND g.A.Abi.ALIGN64) c.args.memory.now c.args.at c.loop-place.place c.args.count (omega arith))) ∙ c.loop-place.invariant
