-- Where a directory lies.
use Rattle.std.specs.Prelude.{ℕ, zero, suc, ◌==◌, Bool, true, false, length, List, Option, Some, None, if◌then◌else◌}
use Rattle.number_maps.specs.NumberMap.{at, changed}
use Rattle.file_tables.specs.Directories.{parent_of}
use Rattle.file_tables.specs.declared.state.Directory.{Directory}

-- a place is a directory or lies below it, as at most so many steps towards the root show
unfoldable pub is_inside : List (ℕ × Directory) → ℕ → ℕ → ℕ → Bool
is_inside dirs inode place zero = false
is_inside dirs inode place (suc n) = if place == inode then true else is_inside dirs inode (parent_of dirs place) n

-- no directory lies deeper than there are directories
abbrev pub lies_inside : List (ℕ × Directory) → ℕ → ℕ → Bool
lies_inside dirs inode place = is_inside dirs inode place (length dirs)

-- a directory, where it is one, lies in another one
abbrev pub moved_as : List (ℕ × Directory) → ℕ → ℕ → Option Directory → List (ℕ × Directory)
moved_as dirs inode parent None = dirs
moved_as dirs inode parent (Some d) = changed dirs inode (record d { parent = parent })

unfoldable pub moved_into : List (ℕ × Directory) → ℕ → ℕ → List (ℕ × Directory)
moved_into dirs inode parent = moved_as dirs inode parent (at dirs inode)
