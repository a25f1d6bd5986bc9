-- Pieces of text. Registers and addresses have 8 digits, byte fields two for each byte; other numbers have no leading zeros.
use Rattle.std.specs.Prelude.{ℕ, List, [], ◌∷◌, ◌++◌, false}
use Rattle.std.specs.Int.{w32, to_be_bytes}
use Rattle.std.specs.Fmt.{digits}
use Rattle.hex.specs.Hex.{encode_lower}

-- a 32-bit word in 8 digits
abbrev pub word_text : ℕ → List ℕ
word_text word = encode_lower (to_be_bytes w32 word)

-- a number in hexadecimal
abbrev pub hex_text : ℕ → List ℕ
hex_text n = digits 16 false n

-- words, with a space before each
unfoldable pub words_text : List ℕ → List ℕ
words_text [] = []
words_text (word ∷ words) = 32 ∷ (word_text word ++ words_text words)

-- a line
abbrev pub line : List ℕ → List ℕ
line text = text ++ 10 ∷ []
