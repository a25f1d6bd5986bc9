-- Seeking.
use Rattle.std.specs.Prelude.{ℕ, ℤ, pos, negsuc, ◌+ℤ◌, ◌==◌, ◌&&◌, ◌||◌, nat_lt, Result, Ok, Err, if◌then◌else◌}
use Rattle.kernel_values.specs.Bounds.{most_file_bytes, most_narrow}
use Rattle.kernel_values.specs.Outcome.{◌>>=◌, ◌>>◌, refused_if, settled}
use Rattle.kernel_values.specs.declared.errno.Errno.{Errno}
use Rattle.kernel_values.specs.declared.errno.Errno.TheVariants.{IllegalSeek, InvalidArgument}
use Rattle.file_tree.specs.Locks.{seek_base}
use Rattle.open_files.specs.Descriptors.{open_file, with_position}
use Rattle.open_files.specs.Kinds.{is_of_directory, lacks_position}
use Rattle.file_store.specs.declared.state.Files.{Files}

-- no position is below 0 or above the greatest size of a file
abbrev pub in_range : ℤ → Result ℕ Errno
in_range (pos n) = if nat_lt most_file_bytes n then Err InvalidArgument else Ok n
in_range (negsuc n) = Err InvalidArgument

-- lseek; a pipe and a socket have no position, and a directory no end to count from and no position above 2^31 - 1
abbrev pub seek : Files → ℤ → ℤ → ℕ → Result ℤ Errno × Files
seek s fd offset whence = settled s (do
  f ← open_file s.open_files fd
  refused_if (lacks_position f.1.kind) IllegalSeek
  base ← seek_base s.tree f.1.inode f.1.position whence
  p ← in_range (pos base +ℤ offset)
  refused_if (is_of_directory f.1.kind && ((whence == 2) || nat_lt most_narrow p)) InvalidArgument
  Ok (pos p, record s { open_files = with_position s.open_files f.0 f.1 p }))
