use Rattle.std.proofs.Common.{get_or, arith}
use Rattle.std.specs.Int.RustNames.{count_ones}
use Rattle.std.proofs.lemmas.List.Sums.{sum_by_more}
use Rattle.readiness_calls.proofs.SetBytes.{few_ones}
use Rattle.readiness_calls.proofs.sets.ones.Goals as goal

pub loop-byte-preserved : goal.loop-byte-preserved
loop-byte-preserved c =
    let xs = c.args.bytes.now in
    let i = c.loop-byte.byte-index in
    let more = sum_by_more count_ones xs i 0 (omega arith) in
    let few = few_ones (get_or xs i 0) (omega (arith, c.type_inv.bytes i)) in
    record {
      count = omega (arith, more, c.loop-byte.invariant.count);
      few = omega (arith, few, c.loop-byte.invariant.few);
    }
