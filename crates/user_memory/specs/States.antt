-- Pages as contracts see them, and what they tell of the stores to them.
use Rattle.std.specs.Prelude.{◌≡◌, ℕ, ◌<◌, ◌≤◌, length, slice_index, slice_index_or, List, map, All}
use Rattle.user_memory.specs.declared.page.Page.{Page}
use Rattle.user_memory.specs.Pages.{PageState, IsWellFormed}

abbrev pub state_of : Page → PageState
state_of p = record { number = p.number; writable = p.writable; bytes = p.bytes.items; before = p.before.items }

abbrev pub states_of : List Page → List PageState
states_of pages = map state_of pages

-- the bytes that aren't as they were when changes were last cleared stand where a page says that it was stored to
pub record TellsStores (p : Page) : Type 0 where
  pub within : p.past ≤ length p.bytes.items
  pub front : (k : ℕ) → k < p.first → slice_index p.bytes.items k ≡ slice_index p.before.items k
  pub back : (k : ℕ) → p.past ≤ k → slice_index p.bytes.items k ≡ slice_index p.before.items k

-- no byte of the page differs from what it was when changes were last cleared
abbrev pub IsUnchanged : Page → Type 0
IsUnchanged p = p.bytes.items ≡ p.before.items

-- the pages that were stored to since then stand from one place up to another
pub record AreStoredWithin (pages : List Page) (first past : ℕ) : Type 0 where
  pub within : past ≤ length pages
  pub front : (k : ℕ) (d : Page) → k < first → k < length pages → IsUnchanged (slice_index_or pages k d)
  pub back : (k : ℕ) (d : Page) → past ≤ k → k < length pages → IsUnchanged (slice_index_or pages k d)

-- pages in order, each of which tells where it was stored to, and the places of those that were
pub record AreKept (pages : List Page) (first past : ℕ) : Type 0 where
  pub well_formed : IsWellFormed (states_of pages)
  pub stores : All TellsStores pages
  pub places : AreStoredWithin pages first past
