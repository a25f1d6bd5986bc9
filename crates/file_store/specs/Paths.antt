-- Where the steps of a path begin, and the inode that they lead to.
use Rattle.std.specs.Prelude.{ℕ, ℤ, ◌==◌, Bool, not, length, List, Result, Ok, if◌then◌else◌}
use Rattle.std.specs.Ordering.{int_eq}
use Rattle.kernel_values.specs.Bounds.{at_fdcwd}
use Rattle.kernel_values.specs.Outcome.{◌>>=◌, ◌>>◌, refused_if}
use Rattle.kernel_values.specs.declared.errno.Errno.{Errno}
use Rattle.kernel_values.specs.declared.errno.Errno.TheVariants.{NoEntry, NotDirectory}
use Rattle.file_tables.specs.Names.{is_absolute}
use Rattle.file_tree.specs.Paths.{inode_from, is_directory, parent_from}
use Rattle.open_files.specs.Descriptors.{open_file}
use Rattle.file_store.specs.declared.state.Files.{Files}

-- the working directory in place of a descriptor
abbrev pub is_working : ℤ → Bool
is_working fd = int_eq fd at_fdcwd

-- the directory that a descriptor names
unfoldable pub place_of : Files → ℤ → Result ℕ Errno
place_of s from = if is_working from then Ok s.tree.working else do
  f ← open_file s.open_files from
  refused_if (not (is_directory s.tree f.1.inode)) NotDirectory
  Ok f.1.inode

-- Where the steps of a path begin: at the root, inode 2, where it begins with a slash. The descriptor is looked
-- at only where it doesn't.
unfoldable pub start_of : Files → ℤ → List ℕ → Result ℕ Errno
start_of s from path = do
  refused_if (length path == 0) NoEntry
  if is_absolute path then Ok 2 else place_of s from

-- the steps of a path to its last name, and that name
unfoldable pub resolve_parent : Files → ℤ → List ℕ → Result (ℕ × List ℕ) Errno
resolve_parent s from path = do
  start ← start_of s from path
  parent_from s.tree start path

-- the inode of a path
unfoldable pub resolve : Files → ℤ → List ℕ → Result ℕ Errno
resolve s from path = do
  start ← start_of s from path
  inode_from s.tree start path
