-- Pages of 4,096 bytes that hold a byte other than 0.
use Rattle.std.specs.Prelude.{ℕ, zero, suc, ◌+◌, ◌*◌, ◌/◌, ◌==◌, not, Bool, if◌then◌else◌, List, length, take, drop}
use Rattle.std.specs.List.{list_any}
use Rattle.file_bytes.specs.Row.{row}

-- whether one of these bytes is other than 0
abbrev pub has_filled : List ℕ → Bool
has_filled bytes = list_any (λ (b : ℕ). not (b == 0)) bytes

-- whether a page of the bytes, by its number, holds a byte other than 0
abbrev pub is_filled : List ℕ → ℕ → Bool
is_filled bytes page = has_filled (take 4096 (drop (page * 4096) bytes))

-- how many of the first n pages do
unfoldable pub filled_below : List ℕ → ℕ → ℕ
filled_below bytes zero = 0
filled_below bytes (suc n) = if is_filled bytes n then filled_below bytes n + 1 else filled_below bytes n

-- how many pages do
unfoldable pub filled_pages : List ℕ → ℕ
filled_pages bytes = filled_below bytes ((length bytes + 4095) / 4096)

-- how many of the first n pages of a function's values hold one other than 0
unfoldable pub filled_of : (ℕ → ℕ) → ℕ → ℕ
filled_of f zero = 0
filled_of f (suc n) = if has_filled (row f (n * 4096) 4096) then filled_of f n + 1 else filled_of f n
