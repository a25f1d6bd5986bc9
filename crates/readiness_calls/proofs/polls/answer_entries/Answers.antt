use Rattle.std.proofs.Common.{◌+◌, ◌∙◌, sym, arith}
use Rattle.std.proofs.lemmas.Result.{err_from_is_err_and}
use Rattle.layout_laws.specs.Abis.{rules}
use Rattle.readiness_calls.proofs.EntryTurns.{answered_next, answered_none, counted_few, entry_fits, none_refused, read_next, refused_next}
use Rattle.readiness_calls.proofs.polls.answer_entries.Goals as goal

pub returns-in_err-entry : goal.returns-in_err-entry
returns-in_err-entry g c =
    absurd (none_refused (rules g.A.Compat.KIND g.A.Abi.ALIGN64) c.loop-place.memory c.args.at c.loop-place.place c.args.count _ _ (omega arith) (omega (arith, c.from.ensures, c.from-in-loop-place.ensures)) c.in_err-entry.ensures c.loop-place.invariant.read)

pub overflow_cast-start : goal.overflow_cast-start
overflow_cast-start g c =
    let fits = entry_fits (rules g.A.Compat.KIND g.A.Abi.ALIGN64) c.loop-place.memory _ _ (sym c.in_ok-entry.ensures) in
    omega (arith, fits)

pub returns-in_err-store_shape : goal.returns-in_err-store_shape
returns-in_err-store_shape g c =
    let p = err_from_is_err_and c.from_residual-in_err-store_shape.result c.from_residual-in_err-store_shape.ensures.1 in
    let refused = refused_next (rules g.A.Compat.KIND g.A.Abi.ALIGN64) c.args.at c.loop-place.place c.args.count _ _ c.args.kernel.now c.loop-place.told _ _ _ _ _ (omega arith) (omega (arith, c.from.ensures, c.from-in-loop-place.ensures)) c.in_ok-entry.ensures
    c.entry_answer-answer.ensures (omega arith) c.in_err-store_shape.ensures c.loop-place.invariant.read _ c.loop-place.invariant.same in
    rw (p.1, p.2) refused

pub loop-place-preserved : goal.loop-place-preserved
loop-place-preserved g c =
    let abi = rules g.A.Compat.KIND g.A.Abi.ALIGN64 in
    let few = counted_few c.entry_answer-answer.result in
    record {
      few = omega (arith, few, c.counted-told.ensures, c.loop-place.invariant.few);
      read = read_next abi c.args.at c.loop-place.place c.args.count _ _ _ _ _ _ (omega arith) (omega (arith, c.from.ensures, c.from-in-loop-place.ensures)) c.in_ok-entry.ensures (omega arith)
          c.in_ok-store_shape.ensures c.loop-place.invariant.read;
      same = answered_next abi c.args.at c.loop-place.place c.args.count _ _ c.args.kernel.now c.loop-place.told (c.loop-place.told + c.counted-told.result) _ _ _ _ (omega arith)
          (omega (arith, c.from.ensures, c.from-in-loop-place.ensures)) c.in_ok-entry.ensures c.entry_answer-answer.ensures (omega arith) c.in_ok-store_shape.ensures (omega (arith, c.counted-told.ensures))
          c.loop-place.invariant.read _ c.loop-place.invariant.same;
    }

pub returns : goal.returns
returns g c =
    sym c.loop-place.invariant.same ∙ answered_none (rules g.A.Compat.KIND g.A.Abi.ALIGN64) c.args.at c.loop-place.place c.args.count c.args.kernel.now c.loop-place.told c.loop-place.memory (omega arith)
