-- What an open file is ready for, as poll(2) tells it, and how many bytes wait to be read from it, as FIONREAD of ioctl(2) tells it.
use Rattle.std.specs.Prelude.{ℕ, ℤ, Bool, true, false, not, nat_le, nat_lt, length, Option, Some, None, Result, Ok, Err}
use Rattle.kernel_values.specs.Outcome.{◌>>=◌}
use Rattle.kernel_values.specs.declared.errno.Errno.{Errno}
use Rattle.kernel_values.specs.declared.errno.Errno.TheVariants.{NotTerminal}
use Rattle.kernel_values.specs.declared.items.OpenKind.{OpenKind}
use Rattle.kernel_values.specs.declared.items.OpenKind.TheVariants.{File, Directory, PipeRead, PipeWrite, Stream, Datagram, RuleSocket}
use Rattle.number_maps.specs.NumberMap.{at}
use Rattle.pipe_sock.specs.Pipes.{free_room, waiting}
use Rattle.socket_tables.specs.Readiness as sockets
use Rattle.socket_tables.specs.Sockets.{SocketsState}
use Rattle.socket_tables.specs.declared.state.Socket.{Socket}
use Rattle.open_files.specs.Descriptors.{open_file}
use Rattle.open_files.specs.Holding.{has_reader, has_writer}
use Rattle.open_files.specs.declared.readiness.Ready.{Ready}
use Rattle.open_files.specs.declared.state.OpenFiles.{OpenFiles}

-- POLLIN, POLLOUT, POLLERR and POLLHUP
abbrev pub ready_for : Bool → Bool → Bool → Bool → Ready
ready_for input output error hang_up = record { input = input; output = output; error = error; hang_up = hang_up }

-- what a socket is ready for
abbrev pub ready_of_socket : SocketsState → Option Socket → Ready
ready_of_socket s None = ready_for false false false false
ready_of_socket s (Some k) = ready_for (sockets.has_input s k) (sockets.has_output s k) false (sockets.has_hung_up s k)

-- A file and a directory are always ready. Of a pipe, the end that is read from has input where bytes wait, and has hung up where no end
-- is open for writing; the other has output where PIPE_BUF bytes, 4,096, are free, and an error where no end is open for reading. A Unix
-- socket is ready for what its messages and its peer make it. A socket of rule tables has output.
unfoldable pub ready_of : OpenFiles → ℕ → ℕ → OpenKind → Ready
ready_of s serial inode File = ready_for true true false false
ready_of s serial inode Directory = ready_for true true false false
ready_of s serial inode PipeRead = ready_for (nat_lt 0 (length (waiting s.pipes inode))) false false (not (has_writer s.files inode))
ready_of s serial inode PipeWrite = ready_for false (nat_le 4096 (free_room (waiting s.pipes inode))) (not (has_reader s.files inode)) false
ready_of s serial inode Stream = ready_of_socket s.sockets (at s.sockets.entries serial)
ready_of s serial inode Datagram = ready_of_socket s.sockets (at s.sockets.entries serial)
ready_of s serial inode RuleSocket = ready_for false true false false

-- what a descriptor is ready for; EBADF where it isn't open
unfoldable pub ready : OpenFiles → ℤ → Result Ready Errno
ready s fd = do
  f ← open_file s fd
  Ok (ready_of s f.0 f.1.inode f.1.kind)

-- the bytes that wait in a socket
abbrev pub bytes_in_socket : Option Socket → Result ℕ Errno
bytes_in_socket None = Err NotTerminal
bytes_in_socket (Some k) = Ok (sockets.bytes_waiting k)

-- FIONREAD of an open file: the bytes that wait in a pipe, at either end, or in a Unix socket; ENOTTY for all else
unfoldable pub waiting_in : OpenFiles → ℕ → ℕ → OpenKind → Result ℕ Errno
waiting_in s serial inode File = Err NotTerminal
waiting_in s serial inode Directory = Err NotTerminal
waiting_in s serial inode PipeRead = Ok (length (waiting s.pipes inode))
waiting_in s serial inode PipeWrite = Ok (length (waiting s.pipes inode))
waiting_in s serial inode Stream = bytes_in_socket (at s.sockets.entries serial)
waiting_in s serial inode Datagram = bytes_in_socket (at s.sockets.entries serial)
waiting_in s serial inode RuleSocket = Err NotTerminal

-- FIONREAD
unfoldable pub waiting_bytes : OpenFiles → ℤ → Result ℕ Errno
waiting_bytes s fd = do
  f ← open_file s fd
  waiting_in s f.0 f.1.inode f.1.kind
