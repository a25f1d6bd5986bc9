-- Other lengths of files.
use Rattle.std.specs.Prelude.{ℕ, zero, suc, ℤ, pos, negsuc, ◌+◌, ◌||◌, Bool, true, false, not, nat_abs, nat_lt, int_lt, int_le, List, Result, Ok, Err, ⊤, if◌then◌else◌}
use Rattle.kernel_values.specs.Bounds.{at_fdcwd, most_file_bytes}
use Rattle.kernel_values.specs.Outcome.{◌>>=◌, ◌>>◌, refused_if, settled}
use Rattle.kernel_values.specs.OpenFlags.{can_write}
use Rattle.kernel_values.specs.declared.errno.Errno.{Errno}
use Rattle.kernel_values.specs.declared.errno.Errno.TheVariants.{BadDescriptor, FileTooLarge, IllegalSeek, InvalidArgument, IsDirectory, NoDevice, OperationNotSupported}
use Rattle.kernel_values.specs.declared.times.TimeSpec.{TimeSpec}
use Rattle.file_tree.specs.Lengths.{with_end, with_length}
use Rattle.file_tree.specs.Paths.{is_directory}
use Rattle.open_files.specs.Descriptors.{open_file}
use Rattle.open_files.specs.Kinds.{is_of_file, is_of_pipe}
use Rattle.file_store.specs.Paths.{resolve}
use Rattle.file_store.specs.declared.state.Files.{Files}

-- no file has a length below 0, or above the greatest
abbrev pub length_of : ℤ → Result ℕ Errno
length_of (negsuc n) = Err InvalidArgument
length_of (pos n) = if nat_lt most_file_bytes n then Err FileTooLarge else Ok n

-- truncate and truncate64; O_LARGEFILE isn't looked at
abbrev pub truncate : Files → TimeSpec → List ℕ → ℤ → Result ⊤ Errno × Files
truncate s now path wanted = settled s (do
  n ← length_of wanted
  i ← resolve s at_fdcwd path
  refused_if (is_directory s.tree i) IsDirectory
  Ok (tt, record s { tree = with_length s.tree now i n }))

-- ftruncate and ftruncate64; what isn't open for writing is EINVAL, behind the length
abbrev pub truncate_open : Files → TimeSpec → ℤ → ℤ → Result ⊤ Errno × Files
truncate_open s now fd wanted = settled s (do
  f ← open_file s.open_files fd
  n ← length_of wanted
  refused_if (not (is_of_file f.1.kind) || not (can_write f.1.flags)) InvalidArgument
  Ok (tt, record s { tree = with_length s.tree now f.1.inode n }))

-- the mode of fallocate: 0, or FALLOC_FL_KEEP_SIZE, 1, which keeps the length
abbrev pub raises_length : ℤ → Result Bool Errno
raises_length (pos zero) = Ok true
raises_length (pos (suc zero)) = Ok false
raises_length (pos (suc (suc n))) = Err OperationNotSupported
raises_length (negsuc n) = Err OperationNotSupported

-- fallocate
abbrev pub allocate : Files → ℤ → ℤ → ℤ → ℤ → Result ⊤ Errno × Files
allocate s fd mode offset count = settled s (do
  f ← open_file s.open_files fd
  refused_if (not (can_write f.1.flags)) BadDescriptor
  refused_if (int_lt offset (pos 0) || int_le count (pos 0)) InvalidArgument
  raises ← raises_length mode
  refused_if (is_of_pipe f.1.kind) IllegalSeek
  refused_if (not (is_of_file f.1.kind)) NoDevice
  refused_if (nat_lt most_file_bytes (nat_abs offset + nat_abs count)) FileTooLarge
  Ok (tt, record s { tree = with_end s.tree raises f.1.inode (nat_abs offset + nat_abs count) }))
