-- The positions of names: a map from names, which are lists of bytes in lexicographic order.
use Rattle.std.specs.Prelude.{ℕ, List, [], ◌∷◌, Option}
use Rattle.std.specs.BTreeMap.{insert_entry, is_at}
use Rattle.std.specs.Cmp.Lexicographic.{slice_cmp}
use Rattle.std.specs.List.Sorted.{IsStrictlySortedBy}
use Rattle.std.specs.Map.{keys_of, lookup, remove_entry}
use Rattle.std.specs.Ordering.{nat_cmp}

abbrev pub Positions : Type 0
Positions = List (List ℕ × ℕ)

-- the names ascend
abbrev pub AreAscending : Positions → Type 0
AreAscending positions = IsStrictlySortedBy (slice_cmp nat_cmp) (keys_of positions)

-- the position of a name
abbrev pub position_of : Positions → List ℕ → Option ℕ
position_of positions name = lookup (is_at (slice_cmp nat_cmp name)) positions

-- a name has a position
abbrev pub with_position : Positions → List ℕ → ℕ → Positions
with_position positions name position = insert_entry (slice_cmp nat_cmp) positions name position

-- a name has no position any more
abbrev pub without_position : Positions → List ℕ → Positions
without_position positions name = remove_entry (is_at (slice_cmp nat_cmp name)) positions

-- the names and positions of entries whose keys have names
abbrev pub by_name : {K : Type 0} → (K → List ℕ) → List (K × ℕ) → Positions
by_name name_of [] = []
by_name name_of (e ∷ es) = (name_of e.0, e.1) ∷ by_name name_of es
