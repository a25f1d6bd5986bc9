-- the bits so far, at most 8 of each byte
use Rattle.std.proofs.Common.{◌≡◌, ◌≤◌, ◌*◌, take}
use Rattle.std.specs.List.{sum_by}
use Rattle.std.specs.Int.RustNames.{count_ones}
use Rattle.readiness_calls.proofs.sets.ones.Given as goal

abbrev pub invariant-loop-byte : goal.invariant-loop-byte
invariant-loop-byte l = record {
  count : l.count ≡ sum_by count_ones (take l.byte-index l.bytes);
  few : l.count ≤ 8 * l.byte-index;
}
