-- The longest runs, each within one page of 4,096 bytes, of a file's bytes other than 0.
-- A run is the offset of its first byte and its bytes.
use Rattle.std.specs.Prelude.{ℕ, ◌+◌, ◌%◌, ◌==◌, ◌&&◌, not, if◌then◌else◌, List, [], ◌∷◌, drop}

-- a byte other than 0 in front of the runs behind it: it joins a run that begins right after it in its page
unfoldable pub joined : ℕ → ℕ → List (ℕ × List ℕ) → List (ℕ × List ℕ)
joined i byte [] = (i, byte ∷ []) ∷ []
joined i byte (run ∷ runs) = if (run.0 == i + 1) && not ((i + 1) % 4096 == 0) then (i, byte ∷ run.1) ∷ runs else (i, byte ∷ []) ∷ run ∷ runs

-- the runs of bytes of which the first stands at an offset
unfoldable pub runs_of : ℕ → List ℕ → List (ℕ × List ℕ)
runs_of i [] = []
runs_of i (byte ∷ bytes) = if byte == 0 then runs_of (i + 1) bytes else joined i byte (runs_of (i + 1) bytes)

-- the runs of a file at or after an offset, a run that begins before it cut there
abbrev pub runs_from : List ℕ → ℕ → List (ℕ × List ℕ)
runs_from bytes from = runs_of from (drop from bytes)
