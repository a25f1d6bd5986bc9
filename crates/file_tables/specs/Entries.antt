-- The entries of a directory, by position.
use Rattle.std.specs.Prelude.{ℕ, ◌==◌, List, Option}
use Rattle.std.specs.List.{find}
use Rattle.std.specs.Map.{values_of}
use Rattle.std.specs.Str.{bytes_eq}
use Rattle.file_tables.specs.declared.state.Entry.{Entry}

-- the entry with a name, and its position
unfoldable pub named : List (ℕ × Entry) → List ℕ → Option (ℕ × Entry)
named names name = find (λ (e : ℕ × Entry). bytes_eq e.1.name name) names

-- the first entry that means an inode
unfoldable pub entry_for : List (ℕ × Entry) → ℕ → Option Entry
entry_for names child = find (λ (e : Entry). e.child == child) (values_of names)
