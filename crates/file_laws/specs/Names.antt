-- Names made and moved.
use Rattle.std.specs.Prelude.{◌≡◌, ◌≢◌, ◌+◌, ℕ, ℤ, true, false, List, map, Some, None, Ok}
use Rattle.std.specs.List.{IsDistinct}
use Rattle.std.specs.Str.{bytes_eq}
use Rattle.kernel_values.specs.Bounds.{at_fdcwd}
use Rattle.kernel_values.specs.declared.times.TimeSpec.{TimeSpec}
use Rattle.number_maps.specs.NumberMap.{IsAscending, at}
use Rattle.file_tables.specs.declared.state.Directory.{Directory}
use Rattle.file_tables.specs.declared.state.Entry.{Entry}
use Rattle.file_tree.specs.Making.{next_inode}
use Rattle.file_tree.specs.Paths.{entry_at, is_directory}
use Rattle.file_tree.specs.declared.state.FileTree.{FileTree}
use Rattle.file_tree.specs.declared.state.Maker.{Maker}
use Rattle.file_store.specs.NewDirectory.{make_directory}
use Rattle.file_store.specs.Paths.{resolve}
use Rattle.file_store.specs.Removing.{parent_named}
use Rattle.file_store.specs.Renaming.{rename}
use Rattle.file_store.specs.declared.state.Files.{Files}

-- What is next to be given isn't in use: the next inode number is no directory's, and no name stands at the next position of a
-- directory.
pub record HasFreshNumbers (s : FileTree) : Type 0 where
  pub inode : is_directory s (next_inode s) ≡ false
  pub positions : (place : ℕ) (d : Directory) → at s.directories place ≡ Some d → at d.names (d.last + 1) ≡ None

-- a path leads to a directory that wasn't one before
pub record LeadsToNewDirectory (before after : Files) (from : ℤ) (path : List ℕ) : Type 0 where
  pub inode : ℕ
  pub resolves : resolve after from path ≡ Ok inode
  pub directory : is_directory after.tree inode ≡ true
  pub new : is_directory before.tree inode ≡ false

-- Where a directory was made, its path leads to it. What was next to be given wasn't in use.
abbrev pub MadeDirectoryResolves : Type 0
MadeDirectoryResolves =
    (s : Files) (maker : Maker) (from : ℤ) (path : List ℕ) (mode : ℕ)
    → HasFreshNumbers s.tree
    → (make_directory s maker from path mode).0 ≡ Ok tt
    → LeadsToNewDirectory s (make_directory s maker from path mode).1 from path

-- each name stands once in a directory, by ascending position, and none at the next position
pub record HasSoundNames (d : Directory) : Type 0 where
  pub ascend : IsAscending d.names
  pub once : IsDistinct bytes_eq (map (λ (e : ℕ × Entry). e.1.name) d.names)
  pub vacant : at d.names (d.last + 1) ≡ None

-- A name in a place means what another one meant, and that one means nothing, unless both meant one inode before.
pub record NameMoves (before after : FileTree) (old new : ℕ × List ℕ) : Type 0 where
  pub inode : ℕ
  pub meant : entry_at before old ≡ Ok (Some inode)
  pub means : entry_at after new ≡ Ok (Some inode)
  pub gone : entry_at before new ≢ Ok (Some inode) → entry_at after old ≡ Ok None

-- Where rename answers Ok, the last name of the new path, in the place that the path led to, means what that of the old path meant.
-- The names of each directory are sound.
abbrev pub RenamedNameMoves : Type 0
RenamedNameMoves =
    (s : Files) (now : TimeSpec) (old new : List ℕ) (l m : ℕ × List ℕ)
    → ((place : ℕ) (d : Directory) → at s.tree.directories place ≡ Some d → HasSoundNames d)
    → parent_named s at_fdcwd old ≡ Ok l
    → parent_named s at_fdcwd new ≡ Ok m
    → (rename s now old new).0 ≡ Ok tt
    → NameMoves s.tree (rename s now old new).1.tree l m
