use Rattle.std.proofs.Common.{◌≡◌, ◌-◌, ◌≤◌, [], take, drop}
use Rattle.script_reader.specs.Fields.{are_names}
use Rattle.script_reader.proofs.fields.are_names.Given as goal

abbrev pub invariant-loop-i : goal.invariant-loop-i
invariant-loop-i l = record {
  begun : l.from ≤ l.i;
  so_far : are_names (take (l.i - l.from) (drop l.from l.bytes)) (drop l.i l.bytes) ≡ are_names [] l.bytes;
}
