-- Changed memory: the longest runs, each within one page, of bytes that aren't as they were when changes were last cleared.
-- A run is its first address and its bytes.
use Rattle.std.specs.Prelude.{◌≡◌, ◌≢◌, ℕ, ◌+◌, ◌-◌, ◌%◌, ◌^◌, ◌<◌, ◌≤◌, zero, suc, ◌==◌, ◌&&◌, not, if◌then◌else◌, true, false, List, [], ◌∷◌, slice_index, Option, Some, None}
use Rattle.user_memory.specs.declared.change.Change.{Change}
use Rattle.user_memory.specs.Pages.{PageState, byte_at, differs}

-- a changed byte in front of the runs behind it: it joins a run that begins right after it in its page
unfoldable pub joined : ℕ → ℕ → List (ℕ × List ℕ) → List (ℕ × List ℕ)
joined a byte [] = (a, byte ∷ []) ∷ []
joined a byte (run ∷ runs) = if (run.0 == a + 1) && not ((a + 1) % 4096 == 0) then (a, byte ∷ run.1) ∷ runs else (a, byte ∷ []) ∷ run ∷ runs

-- the runs in n addresses from a on
unfoldable pub runs_over : List PageState → ℕ → ℕ → List (ℕ × List ℕ)
runs_over pages a zero = []
runs_over pages a (suc n) = if differs pages a then joined a (byte_at pages a) (runs_over pages (a + 1) n) else runs_over pages (a + 1) n

-- the runs at or after an address, a run that begins before it cut there
unfoldable pub changes : List PageState → ℕ → List (ℕ × List ℕ)
changes pages from = runs_over pages from (2 ^ 32 - from)

-- the first run at or after an address
pub record IsChangeAt (pages : List PageState) (from : ℕ) (change : Change) : Type 0 where
  pub later : from ≤ change.at
  pub some : 0 < change.length
  pub within : change.at + change.length ≤ 2 ^ 32
  pub clear : (a : ℕ) → from ≤ a → a < change.at → differs pages a ≡ false
  pub changed : (a : ℕ) → change.at ≤ a → a < change.at + change.length → differs pages a ≡ true
  pub one_page : change.at % 4096 + change.length ≤ 4096
  pub ends : ((change.at + change.length) % 4096 ≡ 0 → ⊥) → differs pages (change.at + change.length) ≡ false

-- the next change from an address on, or none where no byte from there on differs
abbrev pub IsNext : List PageState → ℕ → Option Change → Type 0
IsNext pages from None = (a : ℕ) → from ≤ a → a < 2 ^ 32 → differs pages a ≡ false
IsNext pages from (Some change) = IsChangeAt pages from change

-- the bytes from one offset up to another are as before
abbrev pub AreSame : List ℕ → List ℕ → ℕ → ℕ → Type 0
AreSame bytes old start end = (k : ℕ) → start ≤ k → k < end → slice_index bytes k ≡ slice_index old k

-- none of these bytes is as before
abbrev pub Differ : List ℕ → List ℕ → ℕ → ℕ → Type 0
Differ bytes old start end = (k : ℕ) → start ≤ k → k < end → slice_index bytes k ≢ slice_index old k
