-- The flags of descriptors and of open files.
use Rattle.std.specs.Prelude.{ℕ, ℤ, ◌%◌, ◌==◌, ◌&&◌, ◌||◌, Bool, false, not, Result, Ok, Err, ⊤, if◌then◌else◌}
use Rattle.kernel_values.specs.Outcome.{◌>>=◌, settled}
use Rattle.kernel_values.specs.OpenFlags.{can_read, can_write, with_status}
use Rattle.kernel_values.specs.declared.errno.Errno.{Errno}
use Rattle.kernel_values.specs.declared.open_flags.OpenFlags.{OpenFlags}
use Rattle.open_files.specs.Descriptors.{descriptor_of, open_file, with_descriptor, with_open_file}
use Rattle.open_files.specs.declared.state.OpenFile.{OpenFile}
use Rattle.open_files.specs.declared.state.OpenFiles.{OpenFiles}

-- F_GETFD: FD_CLOEXEC is 1
unfoldable pub fd_flags : OpenFiles → ℤ → Result ℕ Errno
fd_flags s fd = do
  d ← descriptor_of s fd
  Ok (if d.1.cloexec then 1 else 0)

-- F_SETFD looks at bit 0 alone
abbrev pub set_fd_flags : OpenFiles → ℤ → ℕ → Result ⊤ Errno × OpenFiles
set_fd_flags s fd word = settled s (do
  d ← descriptor_of s fd
  Ok (tt, with_descriptor s d.0 (record d.1 { cloexec = word % 2 == 1 })))

-- F_GETFL
unfoldable pub open_flags : OpenFiles → ℤ → Result OpenFlags Errno
open_flags s fd = do
  f ← open_file s fd
  Ok f.1.flags

-- F_SETFL
abbrev pub set_open_flags : OpenFiles → ℤ → OpenFlags → Result ⊤ Errno × OpenFiles
set_open_flags s fd given = settled s (do
  f ← open_file s fd
  Ok (tt, with_open_file s f.0 (record f.1 { flags = with_status f.1.flags given })))

-- an open file may be read from, where that is asked for, and written to, where that is
abbrev pub is_usable : Result (ℕ × OpenFile) Errno → Bool → Bool → Bool
is_usable (Err e) read write = false
is_usable (Ok f) read write = (not read || can_read f.1.flags) && (not write || can_write f.1.flags)

-- a descriptor is open, and serves what is asked for
unfoldable pub can_use : OpenFiles → ℤ → Bool → Bool → Bool
can_use s fd read write = is_usable (open_file s fd) read write
