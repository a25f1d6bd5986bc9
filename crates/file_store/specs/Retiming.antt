-- The times that utimensat sets.
use Rattle.std.specs.Prelude.{ℕ, ℤ, pos, negsuc, ◌==◌, ◌||◌, Bool, false, not, List, Option, Some, None, Result, Ok, Err, ⊤, if◌then◌else◌}
use Rattle.kernel_values.specs.Outcome.{◌>>=◌, ◌>>◌, refused_if, settled}
use Rattle.kernel_values.specs.declared.errno.Errno.{Errno}
use Rattle.kernel_values.specs.declared.errno.Errno.TheVariants.{BadAddress, InvalidArgument}
use Rattle.kernel_values.specs.declared.status.FileTimes.{FileTimes}
use Rattle.kernel_values.specs.declared.times.TimeSpec.{TimeSpec}
use Rattle.file_tables.specs.Times.{are_bad_times}
use Rattle.file_tree.specs.Lengths.{retimed}
use Rattle.open_files.specs.Descriptors.{open_file}
use Rattle.file_store.specs.Paths.{is_working, resolve}
use Rattle.file_store.specs.declared.state.Files.{Files}

-- AT_SYMLINK_NOFOLLOW, 0x100, is the only flag
abbrev pub is_times_flags : ℤ → Bool
is_times_flags (pos flags) = (flags == 0) || (flags == 0x100)
is_times_flags (negsuc n) = false

-- the inode of a descriptor, where there is no path; the working directory has none
abbrev pub held_inode : Files → ℤ → Result ℕ Errno
held_inode s from = if is_working from then Err BadAddress else do
  f ← open_file s.open_files from
  Ok f.1.inode

unfoldable pub retimed_inode : Files → ℤ → Option (List ℕ) → Result ℕ Errno
retimed_inode s from None = held_inode s from
retimed_inode s from (Some path) = resolve s from path

-- utimensat
abbrev pub set_times : Files → TimeSpec → ℤ → Option (List ℕ) → Option FileTimes → ℤ → Result ⊤ Errno × Files
set_times s now from path times flags = settled s (do
  refused_if (not (is_times_flags flags)) InvalidArgument
  i ← retimed_inode s from path
  refused_if (are_bad_times times) InvalidArgument
  Ok (tt, record s { tree = retimed s.tree i now times }))
