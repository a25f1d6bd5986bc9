-- Bytes as a function from places, and lists of them.
use Rattle.std.specs.Prelude.{◌≡◌, ℕ, ◌+◌, ◌-◌, ◌<◌, ◌≤◌, List, ◌++◌, take, drop, replicate, map, length, slice_index}
use Rattle.std.specs.List.{range_with_len}

-- the values of n places from a place on
unfoldable pub row : (ℕ → ℕ) → ℕ → ℕ → List ℕ
row f start n = map f (range_with_len start n)

-- a list with these bytes in place of those from a place on
abbrev pub laid : List ℕ → ℕ → List ℕ → List ℕ
laid xs start bytes = take start xs ++ bytes ++ drop (start + length bytes) xs

-- the first n bytes, with zeros at the end where there are fewer
abbrev pub resized : List ℕ → ℕ → List ℕ
resized xs n = take n xs ++ replicate (n - length xs) 0

-- a file's bytes after others were written at an offset: where that lies past the end, zeros come between
unfoldable pub written : List ℕ → ℕ → List ℕ → List ℕ
written xs start bytes = resized xs start ++ (bytes ++ drop (start + length bytes) xs)

-- the new values are these bytes from a place on, and the old values elsewhere
pub record Overlays (old new : ℕ → ℕ) (start : ℕ) (bytes : List ℕ) : Type 0 where
  pub inside : (k : ℕ) → k < length bytes → new (start + k) ≡ slice_index bytes k
  pub before : (i : ℕ) → i < start → new i ≡ old i
  pub after : (i : ℕ) → start + length bytes ≤ i → new i ≡ old i

-- the new values are the old ones before a place, and 0 from it on
pub record Cuts (old new : ℕ → ℕ) (end : ℕ) : Type 0 where
  pub before : (i : ℕ) → i < end → new i ≡ old i
  pub after : (i : ℕ) → end ≤ i → new i ≡ 0
