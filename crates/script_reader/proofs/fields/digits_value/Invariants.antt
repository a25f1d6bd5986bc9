use Rattle.std.proofs.Common.{◌≡◌, ◌^◌, ◌<◌, drop}
use Rattle.script_reader.specs.Fields.{digits_from}
use Rattle.script_reader.proofs.fields.digits_value.Given as goal

abbrev pub invariant-loop-c : goal.invariant-loop-c
invariant-loop-c l = record {
  value : digits_from l.value (drop l.c-index l.digits) ≡ digits_from 0 l.digits;
  small : l.value < 16 ^ l.c-index;
}
