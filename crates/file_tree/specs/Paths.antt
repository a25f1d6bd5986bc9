-- From a path to an inode, by steps that begin at a directory.
use Rattle.std.specs.Prelude.{ℕ, Bool, List, [], Option, ok_or, Result}
use Rattle.kernel_values.specs.Outcome.{◌>>=◌}
use Rattle.kernel_values.specs.declared.errno.Errno.{Errno}
use Rattle.kernel_values.specs.declared.errno.Errno.TheVariants.{NoEntry}
use Rattle.file_tables.specs.Names.{names_of}
use Rattle.file_tables.specs.Directories as directories
use Rattle.file_tree.specs.declared.state.FileTree.{FileTree}

-- an inode is a directory
abbrev pub is_directory : FileTree → ℕ → Bool
is_directory s inode = directories.is_directory s.directories inode

-- the steps of a path from a directory to its last name, and that name
unfoldable pub parent_from : FileTree → ℕ → List ℕ → Result (ℕ × List ℕ) Errno
parent_from s start path = directories.walk s.directories start [] (names_of path)

-- what a last name means, whatever stands behind it in the path
unfoldable pub entry_at : FileTree → ℕ × List ℕ → Result (Option ℕ) Errno
entry_at s l = directories.entry_at s.directories l.0 l.1

-- what the last name of a path means, if it is there
unfoldable pub last_entry : FileTree → ℕ × List ℕ → List ℕ → Result (Option ℕ) Errno
last_entry s l path = directories.last_entry s.directories l path

-- the inode of a path
unfoldable pub inode_from : FileTree → ℕ → List ℕ → Result ℕ Errno
inode_from s start path = do
  l ← parent_from s start path
  n ← last_entry s l path
  ok_or n NoEntry
