-- The parts of renaming. Whether an open file has what is to be replaced is handed in.
use Rattle.std.specs.Prelude.{ℕ, ◌==◌, ◌&&◌, ◌||◌, Bool, false, not, length, List, Option, Some, None, Result, Ok, ⊤, if◌then◌else◌}
use Rattle.std.specs.Option.{is_none}
use Rattle.kernel_values.specs.Outcome.{◌>>◌, refused_if}
use Rattle.kernel_values.specs.declared.errno.Errno.{Errno}
use Rattle.kernel_values.specs.declared.errno.Errno.TheVariants.{InvalidArgument, IsDirectory, NotDirectory}
use Rattle.kernel_values.specs.declared.times.TimeSpec.{TimeSpec}
use Rattle.file_tables.specs.Directories.{is_dot, is_dot_dot}
use Rattle.file_tables.specs.Names.{ends_with_slash}
use Rattle.file_tables.specs.Places.{lies_inside, moved_into}
use Rattle.file_tree.specs.Making.{with_name}
use Rattle.file_tree.specs.Paths.{is_directory}
use Rattle.file_tree.specs.Removing.{spare, unnamed, without_directory, without_name}
use Rattle.file_tree.specs.declared.state.FileTree.{FileTree}

-- a last name that isn't to be moved: none, which means the root, `.` and `..`
abbrev pub is_fixed : List ℕ → Bool
is_fixed name = length name == 0 || is_dot name || is_dot_dot name

-- whether what is there may be replaced: by a directory only one that may go, and by a file only a file
unfoldable pub replaceable : FileTree → ℕ → Option ℕ → Bool → Result ⊤ Errno
replaceable s i None held = Ok tt
replaceable s i (Some j) held = if is_directory s i then spare s j held else refused_if (is_directory s j) IsDirectory

-- whether an inode may get the new name, in the place of a path's last name
unfoldable pub may_move : FileTree → ℕ → ℕ × List ℕ → List ℕ → Option ℕ → Bool → Result ⊤ Errno
may_move s i m path e held = do
  refused_if (not (is_directory s i) && is_none e && ends_with_slash path) NotDirectory
  refused_if (is_directory s i && lies_inside s.directories i m.0) InvalidArgument
  replaceable s i e held

-- what lost its name goes
unfoldable pub dropped : FileTree → ℕ → Bool → FileTree
dropped s inode held = if is_directory s inode then without_directory s inode else unnamed s inode held

-- what had the new name goes
abbrev pub displaced : FileTree → TimeSpec → ℕ × List ℕ → Option ℕ → Bool → FileTree
displaced s now m None held = s
displaced s now m (Some j) held = dropped (without_name s now m) j held

-- The name is gone in one place and made in another, at a new position. Both directories have the time, and what is moved keeps
-- its own.
unfoldable pub renamed : FileTree → TimeSpec → ℕ × List ℕ → ℕ × List ℕ → ℕ → Option ℕ → Bool → FileTree
renamed s now l m i e held =
    let a : FileTree = with_name (displaced (without_name s now l) now m e held) now m i in
    record a { directories = moved_into a.directories i m.0 }

-- the new name means the same inode
abbrev pub is_same : ℕ → Option ℕ → Bool
is_same i None = false
is_same i (Some j) = i == j
