-- The bytes of files, by inode number.
use Rattle.std.specs.Prelude.{ℕ, Bool, false, nat_le, length, List, [], Option, Some, None, unwrap_or}
use Rattle.file_bytes.specs.Row.{resized, written}
use Rattle.number_maps.specs.NumberMap.{at, changed}

-- an inode that has no bytes of its own, as a directory, has none
abbrev pub content_of : List (ℕ × List ℕ) → ℕ → List ℕ
content_of contents inode = unwrap_or (at contents inode) []

-- a file's bytes with others from a place on
abbrev pub overwritten_as : List (ℕ × List ℕ) → ℕ → ℕ → List ℕ → Option (List ℕ) → List (ℕ × List ℕ)
overwritten_as contents inode start bytes None = contents
overwritten_as contents inode start bytes (Some content) = changed contents inode (written content start bytes)

unfoldable pub overwritten : List (ℕ × List ℕ) → ℕ → ℕ → List ℕ → List (ℕ × List ℕ)
overwritten contents inode start bytes = overwritten_as contents inode start bytes (at contents inode)

-- a file of another length: cut, or with zeros behind its bytes
abbrev pub relengthened_as : List (ℕ × List ℕ) → ℕ → ℕ → Option (List ℕ) → List (ℕ × List ℕ)
relengthened_as contents inode n None = contents
relengthened_as contents inode n (Some content) = changed contents inode (resized content n)

unfoldable pub relengthened : List (ℕ × List ℕ) → ℕ → ℕ → List (ℕ × List ℕ)
relengthened contents inode n = relengthened_as contents inode n (at contents inode)

-- a file is there and has so many bytes
abbrev pub reaches : Option (List ℕ) → ℕ → Bool
reaches None end = false
reaches (Some content) end = nat_le end (length content)
