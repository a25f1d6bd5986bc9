-- What the search for a run finds, told by the byte at each place.
use Rattle.std.specs.Prelude.{◌≡◌, ◌≢◌, ℕ, ◌+◌, ◌%◌, ◌<◌, ◌≤◌, Option, Some, None}
use Rattle.file_bytes.specs.declared.run.Run.{Run}

-- the bytes from one place up to another are 0
abbrev pub AreZero : (ℕ → ℕ) → ℕ → ℕ → Type 0
AreZero f start end = (i : ℕ) → start ≤ i → i < end → f i ≡ 0

-- none of these bytes is 0
abbrev pub AreFilled : (ℕ → ℕ) → ℕ → ℕ → Type 0
AreFilled f start end = (i : ℕ) → start ≤ i → i < end → f i ≢ 0

-- the first run at or after a place
pub record IsRunAt (f : ℕ → ℕ) (from : ℕ) (run : Run) : Type 0 where
  pub later : from ≤ run.at
  pub some : 0 < run.length
  pub clear : AreZero f from run.at
  pub filled : AreFilled f run.at (run.at + run.length)
  pub one_page : run.at % 4096 + run.length ≤ 4096
  pub ends : ((run.at + run.length) % 4096 ≡ 0 → ⊥) → f (run.at + run.length) ≡ 0

-- the first run at or after a place, or none where all bytes from there up to an end are 0
abbrev pub IsNext : (ℕ → ℕ) → ℕ → ℕ → Option Run → Type 0
IsNext f from end None = AreZero f from end
IsNext f from end (Some run) = IsRunAt f from run
