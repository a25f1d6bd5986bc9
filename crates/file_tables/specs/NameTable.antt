-- The entries of a directory by position, and an index of their names.
use Rattle.std.specs.Prelude.{◌≡◌, ℕ, List, Option, Some, None, option_map}
use Rattle.number_maps.specs.NumberMap.{IsAscending, at, removed}
use Rattle.file_tables.specs.Entries.{named}
use Rattle.file_tables.specs.NameIndex.{AreAscending, Positions, position_of}
use Rattle.file_tables.specs.declared.state.Entry.{Entry}

-- without the entry that was found
abbrev pub without_found : List (ℕ × Entry) → Option (ℕ × Entry) → List (ℕ × Entry)
without_found names None = names
without_found names (Some e) = removed names e.0

-- without the entry with a name
abbrev pub without_name : List (ℕ × Entry) → List ℕ → List (ℕ × Entry)
without_name names name = without_found names (named names name)

-- the name that stands at a position
abbrev pub name_at : List (ℕ × Entry) → ℕ → Option (List ℕ)
name_at names position = option_map (λ (e : Entry). e.name) (at names position)

-- The index has the names of the entries, each with its position, and no others. So no name stands twice.
pub record IsIndexed (names : List (ℕ × Entry)) (positions : Positions) : Type 0 where
  pub entries_ascend : IsAscending names
  pub index_ascends : AreAscending positions
  pub stands : (name : List ℕ) (position : ℕ) → position_of positions name ≡ Some position → name_at names position ≡ Some name
  pub is_known : (position : ℕ) (entry : Entry) → at names position ≡ Some entry → position_of positions entry.name ≡ Some position
