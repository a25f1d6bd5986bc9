use Rattle.std.proofs.Common.{◌≡◌, ℕ, ◌+◌, ◌-◌, ◌/◌, ◌<◌, ◌≤◌, true}
use Rattle.user_memory.specs.Places.{IsPlaceOf, IsPlaceFrom}
use Rattle.user_memory.specs.Rights.{has_rights}
use Rattle.user_memory.specs.States.{states_of}
use Rattle.user_memory.proofs.pages.prefix_of_range.Given as goal

abbrev pub invariant-loop-done : goal.invariant-loop-done
invariant-loop-done l = record {
  within : l.done ≤ l.end;
  after : l.first ≤ l.place;
  next : IsPlaceFrom l.pages (l.at / 4096 + (l.place - l.first)) l.place;
  here : l.done < l.end → (l.at + l.done) / 4096 ≡ l.at / 4096 + (l.place - l.first);
  allowed : (a : ℕ) → l.at ≤ a → a < l.at + l.done → has_rights l.rights (states_of l.pages) a ≡ true;
  placed : (a : ℕ) → l.at ≤ a → a < l.at + l.done → IsPlaceOf l.pages (a / 4096) (l.first + (a / 4096 - l.at / 4096));
}

abbrev pub decreases-loop-done : goal.decreases-loop-done
decreases-loop-done l = l.end - l.done
