use Rattle.std.proofs.Common.{◌≡◌, ◌-◌, ◌*◌, ◌≤◌, pos, ◌++◌, take, drop, replicate}
use Rattle.abi_registers.specs.Arguments.{values_from}
use Rattle.abi_registers.proofs.arguments.from_words.Given as goal

abbrev pub invariant-loop-form : goal.invariant-loop-form
invariant-loop-form l = record {
  counted : l.count ≡ l.form-index;
  near : l.place ≤ 3 * l.count;
  so_far : take l.count l.values ++ values_from l.even l.words l.place (drop l.form-index l.forms) ≡ values_from l.even l.words 0 l.forms;
  unused : drop l.count l.values ≡ replicate (6 - l.count) (pos 0);
}
