use Rattle.std.proofs.Common.{arith, rules}
use Rattle.std.proofs.lemmas.Result.{err_from_is_err_and}
use Rattle.readiness_calls.proofs.SetBytes.{told_end, told_refused, told_step}
use Rattle.readiness_calls.proofs.sets.tell_bytes.Goals as goal

pub returns-in_err-bytes : goal.returns-in_err-bytes
returns-in_err-bytes c =
    let p = err_from_is_err_and c.from_residual.result c.from_residual.ensures.1 in
    rw (p.1, p.2) (told_refused c.args.kernel.now c.args.condition c.args.count c.loop-place.place _ c.loop-place.bytes _ (omega arith) (search rules) c.loop-place.invariant)

pub loop-place-preserved : goal.loop-place-preserved
loop-place-preserved c =
    told_step c.args.kernel.now c.args.condition c.args.count c.loop-place.place c.in_ok-bytes.field-0 c.loop-place.bytes _ (omega arith) (search rules) c.loop-place.invariant

pub returns : goal.returns
returns c =
    told_end c.args.kernel.now c.args.condition c.args.count c.loop-place.place c.loop-place.bytes _ (omega arith) c.loop-place.invariant
