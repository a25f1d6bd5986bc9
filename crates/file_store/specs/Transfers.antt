-- Reads and writes of files, pipes and sockets.
use Rattle.std.specs.Prelude.{ℕ, ℤ, ◌+◌, ◌-◌, ◌==◌, ◌&&◌, min, not, nat_le, length, take, drop, List, Result, Ok, if◌then◌else◌}
use Rattle.kernel_values.specs.Bounds.{most_file_bytes, most_narrow}
use Rattle.kernel_values.specs.Outcome.{◌>>=◌, ◌>>◌, refused_if, settled}
use Rattle.kernel_values.specs.OpenFlags.{appends, can_read, can_write, is_large}
use Rattle.kernel_values.specs.declared.errno.Errno.{Errno}
use Rattle.kernel_values.specs.declared.errno.Errno.TheVariants.{BadAddress, BadDescriptor, FileTooLarge, IsDirectory}
use Rattle.kernel_values.specs.declared.identity.Credentials.{Credentials}
use Rattle.kernel_values.specs.declared.times.TimeSpec.{TimeSpec}
use Rattle.file_tree.specs.Lengths.{bytes_of, size_of, with_written}
use Rattle.open_files.specs.Descriptors.{open_file, with_position}
use Rattle.open_files.specs.Kinds.{is_of_directory, is_of_pipe, is_of_socket}
use Rattle.open_files.specs.Transfers.{place_of, read_pipe, receive_socket, write_pipe, write_socket}
use Rattle.open_files.specs.declared.state.OpenFile.{OpenFile}
use Rattle.open_files.specs.declared.state.Place.{Place}
use Rattle.open_files.specs.declared.state.Place.TheVariants.{Current, At}
use Rattle.file_store.specs.Releasing.{all_swept}
use Rattle.file_store.specs.State.{with_open_files}
use Rattle.file_store.specs.declared.state.Files.{Files}

-- a transfer from the current position moves it
abbrev pub moved_on : Files → ℕ → OpenFile → Place → ℕ → Files
moved_on s serial f Current p = record s { open_files = with_position s.open_files serial f p }
moved_on s serial f (At n) p = s

-- how many bytes a read could give
abbrev pub bytes_left : Files → OpenFile → ℕ → ℕ → ℕ
bytes_left s f start wanted = min wanted (size_of s.tree f.inode - start)

-- the bytes of a file from a place on, at most as many as memory has room for
unfoldable pub read_file : Files → ℕ × OpenFile → ℕ → ℕ → Place → Result (List ℕ × Files) Errno
read_file s f wanted room place = do
  start ← place_of f.1 place
  let n = min (bytes_left s f.1 start wanted) room
  refused_if (not (bytes_left s f.1 start wanted == 0) && (room == 0)) BadAddress
  Ok (take n (drop start (bytes_of s.tree f.1.inode)), moved_on s f.0 f.1 place (start + n))

-- what is read of a socket; open files that came with it are let go
unfoldable pub read_socket : Files → ℕ × OpenFile → ℕ → ℕ → Place → Result (List ℕ × Files) Errno
read_socket s f wanted room place = do
  r ← receive_socket s.open_files f wanted room place
  Ok (r.0.bytes, all_swept (record s { open_files = r.1 }) r.0.rights)

-- read and pread64
abbrev pub read : Files → ℤ → ℕ → ℕ → Place → Result (List ℕ) Errno × Files
read s fd wanted room place = settled s (do
  f ← open_file s.open_files fd
  refused_if (not (can_read f.1.flags)) BadDescriptor
  refused_if (is_of_directory f.1.kind) IsDirectory
  if is_of_socket f.1.kind then read_socket s f wanted room place
      else if is_of_pipe f.1.kind then with_open_files s (read_pipe s.open_files f.1.inode wanted room place) else read_file s f wanted room place)

-- with O_APPEND a write goes to the end
abbrev pub write_place : Files → OpenFile → Place → Result ℕ Errno
write_place s f place = do
  start ← place_of f place
  Ok (if appends f.flags then size_of s.tree f.inode else start)

-- how many bytes the file may have: without O_LARGEFILE 2^31 - 1
abbrev pub size_limit : OpenFile → ℕ
size_limit f = if is_large f.flags then most_file_bytes else most_narrow

-- bytes of those that could be taken from memory go into a file
unfoldable pub write_file : Files → TimeSpec → ℕ × OpenFile → ℕ → List ℕ → Place → Result (ℕ × Files) Errno
write_file s now f wanted piece place = do
  start ← write_place s f.1 place
  if wanted == 0 then Ok (0, s) else do
    refused_if (nat_le (size_limit f.1) start) FileTooLarge
    refused_if (length piece == 0) BadAddress
    let n = min (min wanted (size_limit f.1 - start)) (length piece)
    Ok (n, moved_on (record s { tree = with_written s.tree now f.1.inode start (take n piece) }) f.0 f.1 place (start + n))

-- write and pwrite64, by a process of these credentials
abbrev pub write : Files → TimeSpec → Credentials → ℤ → ℕ → List ℕ → Place → Result ℕ Errno × Files
write s now own fd wanted piece place = settled s (do
  f ← open_file s.open_files fd
  refused_if (not (can_write f.1.flags)) BadDescriptor
  refused_if (is_of_directory f.1.kind) IsDirectory
  if is_of_socket f.1.kind then with_open_files s (write_socket s.open_files own f wanted piece place)
      else if is_of_pipe f.1.kind then with_open_files s (write_pipe s.open_files f.1.inode wanted piece place) else write_file s now f wanted piece place)
