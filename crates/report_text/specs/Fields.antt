-- The fields of a line that tells an item of the state.
use Rattle.std.specs.Prelude.{ℕ, Bool, if◌then◌else◌, List, [], ◌∷◌, ◌++◌, codes}
use Rattle.hex.specs.Hex.{encode_lower}
use Rattle.report_text.specs.Text.{hex_text}

-- numbers, with a space before each
unfoldable pub numbers_text : List ℕ → List ℕ
numbers_text [] = []
numbers_text (n ∷ ns) = 32 ∷ (hex_text n ++ numbers_text ns)

-- bytes that may be none, told as `-`
unfoldable pub bytes_text : List ℕ → List ℕ
bytes_text [] = codes " -"
bytes_text (b ∷ bs) = codes " " ++ encode_lower (b ∷ bs)

-- 1 or 0
abbrev pub mark : Bool → ℕ
mark b = if b then 1 else 0

-- a word and numbers behind it
abbrev pub numbers_line : List ℕ → List ℕ → List ℕ
numbers_line word numbers = word ++ numbers_text numbers ++ 10 ∷ []

-- a word, numbers and bytes
abbrev pub bytes_line : List ℕ → List ℕ → List ℕ → List ℕ
bytes_line word numbers bytes = word ++ numbers_text numbers ++ codes " " ++ encode_lower bytes ++ 10 ∷ []
