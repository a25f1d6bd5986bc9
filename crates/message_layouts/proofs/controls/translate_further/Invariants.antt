-- what was put stands in front of the bytes of the messages that are left, for which there is room
use Rattle.std.proofs.Common.{◌≡◌, ◌-◌, ◌≤◌, length, take, drop, Some}
use Rattle.message_layouts.specs.Controls.{native_bytes, native_size}
use Rattle.message_layouts.proofs.Sizes.{in_front}
use Rattle.message_layouts.proofs.controls.translate_further.Given as goal

abbrev pub invariant-loop-at : goal.invariant-loop-at
invariant-loop-at l = record {
  within : l.at ≤ length l.from;
  inside : l.put ≤ length l.out;
  room : native_size (drop l.at l.from) ≡ Some (length l.out - l.put);
  all : native_bytes l.from ≡ in_front (take l.put l.out) (native_bytes (drop l.at l.from));
}

abbrev pub decreases-loop-at : goal.decreases-loop-at
decreases-loop-at l = length l.from - l.at
