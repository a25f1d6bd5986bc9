use Rattle.std.proofs.Common.{◌≡◌, ◌++◌, take, drop}
use Rattle.script_reader.specs.Fields.{first_field, after_field}
use Rattle.script_reader.proofs.fields.cut_field.Given as goal

abbrev pub invariant-loop-i : goal.invariant-loop-i
invariant-loop-i l = record {
  first : take l.i l.line ++ first_field (drop l.i l.line) ≡ first_field l.line;
  rest : after_field (drop l.i l.line) ≡ after_field l.line;
}
