-- Pages of 4,096 bytes, by number.
use Rattle.std.specs.Prelude.{◌≡◌, ℕ, ◌-◌, ◌/◌, ◌%◌, min, ◌==◌, if◌then◌else◌, List, Option, Some, None, slice_index}
use Rattle.number_maps.specs.NumberMap.{at}

-- a byte of a page; a page that isn't there is zero
abbrev pub byte_in : Option (List ℕ) → ℕ → ℕ
byte_in (Some page) i = slice_index page i
byte_in None i = 0

-- the byte at a place
unfoldable pub byte_at : List (ℕ × List ℕ) → ℕ → ℕ
byte_at pages i = byte_in (at pages (i / 4096)) (i % 4096)

-- the same bytes at every place
abbrev pub SameBytes : List (ℕ × List ℕ) → List (ℕ × List ℕ) → Type 0
SameBytes old new = (i : ℕ) → byte_at new i ≡ byte_at old i

-- a page has another content, or was made
abbrev pub Puts : List (ℕ × List ℕ) → List (ℕ × List ℕ) → ℕ → List ℕ → Type 0
Puts old new key page = (q : ℕ) → at new q ≡ (if q == key then Some page else at old q)

-- how much of a run of bytes lies in its first page
abbrev pub piece_length : ℕ → ℕ → ℕ
piece_length start left = min left (4096 - start % 4096)
