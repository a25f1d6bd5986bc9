use Rattle.std.proofs.Common.{◌≡◌, ℕ, ◌+◌, ◌-◌, ◌/◌, ◌<◌, ◌≤◌, length, take}
use Rattle.std.specs.Prelude.{All, slice_index_or}
use Rattle.user_memory.specs.declared.page.Page.{Page}
use Rattle.user_memory.specs.Pages.{IsAscending}
use Rattle.user_memory.specs.Memory.{with_bytes}
use Rattle.user_memory.specs.Places.{ArePlacesOf}
use Rattle.user_memory.specs.States.{states_of, TellsStores}
use Rattle.user_memory.proofs.pages.store.Given as goal

abbrev pub invariant-loop-done : goal.invariant-loop-done
invariant-loop-done l = record {
  within : l.done ≤ length l.from;
  after : l.first ≤ l.place;
  inside : l.place ≤ length l.pages;
  here : l.done < length l.from → l.place ≡ l.first + ((l.at + l.done) / 4096 - l.at / 4096);
  places : ArePlacesOf l.pages l.at (length l.from) l.first;
  so_far : states_of l.pages ≡ with_bytes (states_of l.fn.pages) l.at (take l.done l.from);
  ascending : IsAscending (states_of l.pages);
  stores : All TellsStores l.pages;
  front : (k : ℕ) (d : Page) → k < l.first → slice_index_or l.pages k d ≡ slice_index_or l.fn.pages k d;
  back : (k : ℕ) (d : Page) → l.place ≤ k → slice_index_or l.pages k d ≡ slice_index_or l.fn.pages k d;
}

abbrev pub decreases-loop-done : goal.decreases-loop-done
decreases-loop-done l = length l.from - l.done
