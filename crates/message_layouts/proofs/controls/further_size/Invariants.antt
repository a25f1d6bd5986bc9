-- what was counted, and what further messages behind it take
use Rattle.std.proofs.Common.{◌≡◌, ◌+◌, ◌-◌, ◌*◌, ◌≤◌, ℕ, length, drop}
use Rattle.std.specs.Option.{option_map}
use Rattle.message_layouts.specs.Controls.{native_size}
use Rattle.message_layouts.proofs.controls.further_size.Given as goal

abbrev pub invariant-loop-at : goal.invariant-loop-at
invariant-loop-at l = record {
  within : l.at ≤ length l.bytes;
  few : l.size ≤ 2 * l.at;
  all : native_size l.bytes ≡ option_map (λ (n : ℕ). l.size + n) (native_size (drop l.at l.bytes));
}

abbrev pub decreases-loop-at : goal.decreases-loop-at
decreases-loop-at l = length l.bytes - l.at
