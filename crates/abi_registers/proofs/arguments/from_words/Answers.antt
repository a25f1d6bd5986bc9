use Rattle.std.proofs.Common.{◌<◌, length, rules, arith, FitsSigned}
use Rattle.std.proofs.lemmas.Int.{to_z-of_z}
use Rattle.std.specs.Int.{w64}
use Rattle.abi_registers.proofs.Steps.{near_step, room, turn, unused_step}
use Rattle.abi_registers.proofs.arguments.from_words.Goals as goal

pub loop-form-preserved : goal.loop-form-preserved
loop-form-preserved c =
    let fits : FitsSigned w64 c.value_at.result = search rules in
    let in_values : c.loop-form.count < length c.loop-form.values =
    room c.loop-form.values c.loop-form.count (omega arith) c.loop-form.invariant.unused in
    simp to_z-of_z record {
      counted = omega arith;
      near = omega (arith, near_step _ _ _ _ _ c.first_place-first.ensures c.words_of.ensures);
      so_far = turn _ _ _ _ _ _ _ _ _ _ _ _ c.loop-form-test.true in_values c.first_place-first.ensures c.value_at.ensures
          c.words_of.ensures c.loop-form.invariant.so_far;
      unused = unused_step c.loop-form.values c.loop-form.count c.value_at.result in_values c.loop-form.invariant.unused;
    }
