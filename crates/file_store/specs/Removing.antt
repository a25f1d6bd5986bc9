-- The removing of names, and of what they meant.
use Rattle.std.specs.Prelude.{ℕ, ℤ, pos, negsuc, ◌==◌, Bool, length, List, ok_or, Result, Ok, Err, ⊤, if◌then◌else◌}
use Rattle.kernel_values.specs.Outcome.{◌>>=◌, ◌>>◌, refused_if, settled}
use Rattle.kernel_values.specs.declared.errno.Errno.{Errno}
use Rattle.kernel_values.specs.declared.errno.Errno.TheVariants.{Busy, InvalidArgument, IsDirectory, NoEntry, NotEmpty}
use Rattle.kernel_values.specs.declared.times.TimeSpec.{TimeSpec}
use Rattle.file_tables.specs.Directories.{is_dot, is_dot_dot}
use Rattle.file_tree.specs.Paths.{entry_at, is_directory, last_entry}
use Rattle.file_tree.specs.Removing.{spare, unnamed, without_directory, without_name}
use Rattle.open_files.specs.Holding.{is_open}
use Rattle.file_store.specs.Paths.{resolve_parent}
use Rattle.file_store.specs.declared.state.Files.{Files}

-- some open file has the inode
abbrev pub has_open : Files → ℕ → Bool
has_open s inode = is_open s.open_files.files inode

-- The steps of a path to its last name, and that name, with what refuses the name whether it is there or not: its
-- length, and a place that is no directory.
unfoldable pub parent_named : Files → ℤ → List ℕ → Result (ℕ × List ℕ) Errno
parent_named s from path = do
  l ← resolve_parent s from path
  entry_at s.tree l
  Ok l

-- unlink, and unlinkat without a flag: the name of a file goes
abbrev pub unlink : Files → TimeSpec → ℤ → List ℕ → Result ⊤ Errno × Files
unlink s now from path = settled s (do
  l ← resolve_parent s from path
  n ← last_entry s.tree l path
  i ← ok_or n NoEntry
  refused_if (is_directory s.tree i) IsDirectory
  Ok (tt, record s { tree = unnamed (without_name s.tree now l) i (has_open s i) }))

-- rmdir, and unlinkat with AT_REMOVEDIR; no last name means the root
abbrev pub remove_directory : Files → TimeSpec → ℤ → List ℕ → Result ⊤ Errno × Files
remove_directory s now from path = settled s (do
  l ← parent_named s from path
  refused_if (is_dot l.1) InvalidArgument
  refused_if (is_dot_dot l.1) NotEmpty
  refused_if (length l.1 == 0) Busy
  n ← last_entry s.tree l path
  i ← ok_or n NoEntry
  spare s.tree i (has_open s i)
  Ok (tt, record s { tree = without_directory (without_name s.tree now l) i }))

-- unlinkat: AT_REMOVEDIR, 0x200, is the only flag
abbrev pub remove : Files → TimeSpec → ℤ → List ℕ → ℤ → Result ⊤ Errno × Files
remove s now from path (negsuc n) = (Err InvalidArgument, s)
remove s now from path (pos n) = if n == 0 then unlink s now from path else (if n == 0x200 then remove_directory s now from path else (Err InvalidArgument, s))
