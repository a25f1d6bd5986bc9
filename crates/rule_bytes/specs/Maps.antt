-- The map of a blob's rules.
use Rattle.std.specs.Prelude.{◌≡◌, ◌<◌, ℕ, ◌+◌, ◌*◌, ◌/◌, ◌^◌, length, List, [], ◌∷◌, ◌++◌, Result, Ok, Err}
use Rattle.byteorder.specs.Endian.{little_bytes}
use Rattle.kernel_values.specs.declared.rules.BlobFault.{BlobFault}
use Rattle.rule_bytes.specs.declared.layout.BlobLayout.{BlobLayout}
use Rattle.rule_bytes.specs.declared.layout.BlobLayout.TheVariants.{Native}
use Rattle.std.specs.List.{flat_map}
use Rattle.rule_bytes.specs.declared.outlines.BlobOutline.{BlobOutline}
use Rattle.kernel_values.specs.declared.rules.RuleMatch.{RuleMatch}
use Rattle.rule_bytes.specs.Parts.{match_spelling}
use Rattle.rule_bytes.specs.Spelling.{put}
use Rattle.rule_bytes.specs.Rules.{Rule, rule_size, rule_spelling}
use Rattle.rule_bytes.specs.Reading.{number_in}
use Rattle.rule_bytes.specs.Tables.{places, with_jump, with_target}

-- entries one after another: a place, and the native one
abbrev pub pairs : List ℕ → List ℕ → List ℕ
pairs [] ns = []
pairs (p ∷ ps) [] = []
pairs (p ∷ ps) (n ∷ ns) = little_bytes 4 p ++ (little_bytes 4 n ++ pairs ps ns)

-- the bytes of all rules
abbrev pub all_sizes : BlobLayout → List Rule → ℕ
all_sizes l [] = 0
all_sizes l (r ∷ rs) = rule_size l r + all_sizes l rs

-- the map of rules
abbrev pub map_of : BlobLayout → List Rule → List ℕ
map_of l rs = pairs (places l 0 rs) (places Native 0 rs)

-- rules that have no fault, their map, and places below 2^32
abbrev pub IsMapped : BlobLayout → Result (List Rule) BlobFault → List ℕ → Type 0
IsMapped l (Ok rs) map = (map ≡ map_of l rs) × (all_sizes l rs < 2 ^ 32) × (all_sizes Native rs < 2 ^ 32)
IsMapped l (Err e) map = ⊥

-- how many rules there are, and their native bytes
abbrev pub blob_outline_of : List Rule → BlobOutline
blob_outline_of rs = record { rules = length rs; native_size = all_sizes Native rs }

-- the place and the native place in the entry of an index
unfoldable pub place_in : List ℕ → ℕ → ℕ
place_in map i = number_in 4 (8 * i) map

unfoldable pub native_in : List ℕ → ℕ → ℕ
native_in map i = number_in 4 (8 * i + 4) map

-- places rise from entry to entry
abbrev pub IsRisingMap : List ℕ → Type 0
IsRisingMap map = (i j : ℕ) → i < j → j < length map / 8 → place_in map i < place_in map j

-- the native bytes of matches
abbrev pub native_matches : List RuleMatch → List ℕ
native_matches ms = put (flat_map (match_spelling Native) ms)

-- the native bytes of a rule whose jump goes to another place
unfoldable pub native_rule : ℕ → Rule → List ℕ
native_rule to r = put (rule_spelling Native (with_target r (with_jump (λ n. to) r.target)))
