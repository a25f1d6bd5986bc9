-- Where a page stands among pages with ascending numbers, or would stand.
use Rattle.std.specs.Prelude.{◌≡◌, ℕ, ◌+◌, ◌-◌, ◌/◌, ◌<◌, ◌≤◌, List, length, slice_index_or}
use Rattle.user_memory.specs.declared.page.Page.{Page}

-- the index of the page with this number
pub record IsPlaceOf (pages : List Page) (number i : ℕ) : Type 0 where
  pub inside : i < length pages
  pub here : (d : Page) → (slice_index_or pages i d).number ≡ number

-- the index of the first page with a greater number, where none has this one
pub record IsGapFor (pages : List Page) (number i : ℕ) : Type 0 where
  pub inside : i ≤ length pages
  pub below : (k : ℕ) (d : Page) → k < i → (slice_index_or pages k d).number < number
  pub above : (k : ℕ) (d : Page) → i ≤ k → k < length pages → number < (slice_index_or pages k d).number

-- the index of the first page whose number isn't below this one
pub record IsPlaceFrom (pages : List Page) (number i : ℕ) : Type 0 where
  pub inside : i ≤ length pages
  pub below : (k : ℕ) (d : Page) → k < i → (slice_index_or pages k d).number < number
  pub above : (k : ℕ) (d : Page) → i ≤ k → k < length pages → number ≤ (slice_index_or pages k d).number

-- the pages of n addresses from a on stand one after another, the first of them at index i
pub record ArePlacesOf (pages : List Page) (a n i : ℕ) : Type 0 where
  pub inside : i ≤ length pages
  pub each : (b : ℕ) → a ≤ b → b < a + n → IsPlaceOf pages (b / 4096) (i + (b / 4096 - a / 4096))
