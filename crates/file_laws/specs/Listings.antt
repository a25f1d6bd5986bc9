-- Directories listed entry by entry.
use Rattle.std.specs.Prelude.{◌≡◌, ◌<◌, ℕ, List, [], ◌∷◌, map, Some, None, Result, Ok}
use Rattle.std.specs.List.{AllByRecursion}
use Rattle.std.specs.List.Sorted.{IsStrictlySortedBy}
use Rattle.std.specs.Map.{keys_of}
use Rattle.std.specs.Ordering.{nat_cmp}
use Rattle.kernel_values.specs.declared.errno.Errno.{Errno}
use Rattle.kernel_values.specs.declared.listing.DirEntry.{DirEntry}
use Rattle.number_maps.specs.NumberMap.{IsAscending, at}
use Rattle.file_tables.specs.Listing.{entry_kind}
use Rattle.file_tables.specs.declared.state.Directory.{Directory}
use Rattle.file_tables.specs.declared.state.Entry.{Entry}
use Rattle.file_tree.specs.Listing.{TellsEntry, listing}
use Rattle.file_tree.specs.declared.state.FileTree.{FileTree}

-- The entries told one after another from a position on: each call begins at the position of the entry told before, and the last
-- call tells none.
abbrev pub AreToldInTurn : (ℕ → Result (List DirEntry) Errno) → ℕ → List DirEntry → Type 0
AreToldInTurn after position [] = TellsEntry after position (Ok None)
AreToldInTurn after position (e ∷ es) = TellsEntry after position (Ok (Some e)) × AreToldInTurn after e.position es

-- an entry: a name at a position and the inode that it means
abbrev pub listed : FileTree → ℕ → List ℕ → ℕ → DirEntry
listed s position name inode = record { inode = inode; position = position; kind = entry_kind s.directories inode; name = name }

-- an inode is a directory whose names stand by ascending position, behind those of `.` and `..`
pub record IsListable (s : FileTree) (inode : ℕ) (d : Directory) : Type 0 where
  pub there : at s.directories inode ≡ Some d
  pub ascend : IsAscending d.names
  pub behind : AllByRecursion (λ p. 2 < p) (keys_of d.names)

-- The entries told one after another from position 0 are `.` for the directory, `..` for the one that it lies in, and then all
-- names. Their positions ascend, so each is told once.
abbrev pub AllNamesAreListed : Type 0
AllNamesAreListed =
    (s : FileTree) (inode : ℕ) (d : Directory) (es : List DirEntry)
    → IsListable s inode d
    → AreToldInTurn (listing s inode) 0 es
    → (es ≡ listed s 1 (46 ∷ []) inode ∷ (listed s 2 (46 ∷ (46 ∷ [])) d.parent ∷ map (λ (e : ℕ × Entry). listed s e.0 e.1.name e.1.child) d.names))
    × IsStrictlySortedBy nat_cmp (map (λ (e : DirEntry). e.position) es)
