-- Bytes that a source or a sink tells, and counts of faults.
use Rattle.std.specs.Prelude.{◌≡◌, ℕ, ◌-◌, ◌^◌, ◌<◌, List, [], ◌++◌, Option, Some, None, ⊤}

-- a count of faults is greater than before, or stands at its last value
abbrev pub Rose : ℕ → ℕ → Type 0
Rose before after = after < 2 ^ 64 - 1 → before < after

-- what is said of its bytes by a source or a sink that tells none
abbrev pub untold : Option (List ℕ)
untold = None

-- told bytes with a piece in front of them
abbrev pub put_back : List ℕ → Option (List ℕ) → Option (List ℕ)
put_back piece None = None
put_back piece (Some rest) = Some (piece ++ rest)

-- told bytes with a piece after them
abbrev pub appended : Option (List ℕ) → List ℕ → Option (List ℕ)
appended None piece = None
appended (Some bytes) piece = Some (bytes ++ piece)

-- no told byte is left
abbrev pub IsAtEnd : Option (List ℕ) → Type 0
IsAtEnd None = ⊤
IsAtEnd (Some rest) = rest ≡ []
