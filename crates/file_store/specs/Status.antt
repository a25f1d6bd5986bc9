-- What is told of a file, a directory, a pipe or a socket.
use Rattle.std.specs.Prelude.{ℕ, ℤ, pos, negsuc, ◌==◌, ◌&&◌, Bool, false, not, length, List, Result, Ok, if◌then◌else◌}
use Rattle.std.specs.Int.RustNames.{bit_and, bit_or}
use Rattle.kernel_values.specs.Outcome.{◌>>=◌, ◌>>◌, refused_if}
use Rattle.kernel_values.specs.declared.errno.Errno.{Errno}
use Rattle.kernel_values.specs.declared.errno.Errno.TheVariants.{InvalidArgument}
use Rattle.kernel_values.specs.declared.status.Stat.{Stat}
use Rattle.file_tree.specs.Status.{inode_status, nameless_status}
use Rattle.file_tree.specs.declared.state.Maker.{Maker}
use Rattle.open_files.specs.Descriptors.{open_file}
use Rattle.open_files.specs.Kinds.{is_of_pipe, is_of_socket}
use Rattle.open_files.specs.declared.state.OpenFile.{OpenFile}
use Rattle.file_store.specs.Paths.{is_working, resolve}
use Rattle.file_store.specs.declared.state.Files.{Files}

-- S_IFIFO, 0x1000, and 0600
abbrev pub pipe_mode : ℕ
pipe_mode = 0x1180

-- S_IFSOCK, 0xc000, and 0777
abbrev pub socket_mode : ℕ
socket_mode = 0xc1ff

-- what is told of an open file
abbrev pub open_status : Files → Maker → OpenFile → Result Stat Errno
open_status s owner f =
    if is_of_pipe f.kind then Ok (nameless_status owner pipe_mode f.inode)
    else (if is_of_socket f.kind then Ok (nameless_status owner socket_mode f.inode)
    else inode_status s.tree f.inode)

-- fstat and fstat64
unfoldable pub status : Files → Maker → ℤ → Result Stat Errno
status s owner fd = do
  f ← open_file s.open_files fd
  open_status s owner f.1

-- AT_SYMLINK_NOFOLLOW 0x100, AT_NO_AUTOMOUNT 0x800 and AT_EMPTY_PATH 0x1000
abbrev pub is_status_flags : ℤ → Bool
is_status_flags (pos flags) = bit_or flags 0x1900 == 0x1900
is_status_flags (negsuc n) = false

abbrev pub allows_empty_path : ℤ → Bool
allows_empty_path (pos flags) = bit_and flags 0x1000 == 0x1000
allows_empty_path (negsuc n) = false

-- what is told of a directory descriptor itself, which may be the working directory
abbrev pub place_status : Files → Maker → ℤ → Result Stat Errno
place_status s owner from = if is_working from then inode_status s.tree s.tree.working else status s owner from

abbrev pub path_status : Files → ℤ → List ℕ → Result Stat Errno
path_status s from path = do
  i ← resolve s from path
  inode_status s.tree i

-- fstatat64, and without flags stat and stat64; with AT_EMPTY_PATH an empty path means the descriptor
unfoldable pub status_at : Files → Maker → ℤ → List ℕ → ℤ → Result Stat Errno
status_at s owner from path flags = do
  refused_if (not (is_status_flags flags)) InvalidArgument
  if allows_empty_path flags && (length path == 0) then place_status s owner from else path_status s from path
