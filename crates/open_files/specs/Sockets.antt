-- Calls on the Unix socket that a descriptor names.
use Rattle.std.specs.Prelude.{ℕ, ℤ, Bool, false, List, Result, Ok, Err, ⊤}
use Rattle.kernel_values.specs.Outcome.{◌>>=◌, ◌>>◌, refused_if}
use Rattle.kernel_values.specs.declared.errno.Errno.{Errno}
use Rattle.kernel_values.specs.declared.errno.Errno.TheVariants.{OperationNotSupported}
use Rattle.socket_tables.specs.Meeting as meeting
use Rattle.socket_tables.specs.Naming as naming
use Rattle.socket_tables.specs.Sockets.{SocketsState}
use Rattle.open_files.specs.Descriptors.{open_file}
use Rattle.open_files.specs.Kinds.{is_of_datagrams, is_of_rules}
use Rattle.open_files.specs.declared.state.OpenFile.{OpenFile}
use Rattle.open_files.specs.declared.state.OpenFiles.{OpenFiles}

-- The open file that a call on sockets is for: EBADF; EOPNOTSUPP for a socket of rule tables. What is no socket is refused behind it, by
-- ENOTSOCK.
unfoldable pub unix_serial : OpenFiles → ℤ → Result ℕ Errno
unix_serial s fd = do
  f ← open_file s fd
  refused_if (is_of_rules f.1.kind) OperationNotSupported
  Ok f.0

-- an open file is a datagram socket
abbrev pub is_datagrams : Result (ℕ × OpenFile) Errno → Bool
is_datagrams (Ok f) = is_of_datagrams f.1.kind
is_datagrams (Err e) = false

-- a descriptor sends datagrams
unfoldable pub sends_datagrams : OpenFiles → ℤ → Bool
sends_datagrams s fd = is_datagrams (open_file s fd)

-- an operation on the socket of an open file, where that is told
abbrev pub by_serial : {A : Type 0} → OpenFiles → Result ℕ Errno → (ℕ → Result A Errno × SocketsState) → Result A Errno × OpenFiles
by_serial s (Err e) operation = (Err e, s)
by_serial s (Ok serial) operation = ((operation serial).0, record s { sockets = (operation serial).1 })

abbrev pub bind : OpenFiles → ℤ → List ℕ → Result ⊤ Errno × OpenFiles
bind s fd name = by_serial s (unix_serial s fd) (λ serial. naming.bind s.sockets serial name)

abbrev pub listen : OpenFiles → ℤ → ℤ → Result ⊤ Errno × OpenFiles
listen s fd backlog = by_serial s (unix_serial s fd) (λ serial. meeting.listen s.sockets serial backlog)

-- shutdown
abbrev pub shut : OpenFiles → ℤ → ℤ → Result ⊤ Errno × OpenFiles
shut s fd how = by_serial s (unix_serial s fd) (λ serial. meeting.shut s.sockets serial how)

-- getsockname
unfoldable pub own_name : OpenFiles → ℤ → Result (List ℕ) Errno
own_name s fd = do
  serial ← unix_serial s fd
  naming.own_name s.sockets serial

-- getpeername
unfoldable pub peer_name : OpenFiles → ℤ → Result (List ℕ) Errno
peer_name s fd = do
  serial ← unix_serial s fd
  naming.peer_name s.sockets serial
