use Rattle.std.proofs.Common.{◌≡◌, drop}
use Rattle.script_reader.specs.Fields.{same}
use Rattle.script_reader.proofs.fields.is_same.Given as goal

abbrev pub invariant-loop-i : goal.invariant-loop-i
invariant-loop-i l = same (drop l.i l.text) (drop l.i l.other) ≡ same l.text l.other
