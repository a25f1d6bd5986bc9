-- Reads and writes of what is no file: pipes and sockets.
use Rattle.std.specs.Prelude.{ℕ, pos, negsuc, Bool, true, false, List, [], ◌∷◌, drop, None, Result, Ok, Err, if◌then◌else◌}
use Rattle.kernel_values.specs.declared.errno.Errno.{Errno}
use Rattle.kernel_values.specs.declared.errno.Errno.TheVariants.{IllegalSeek, InvalidArgument, OperationNotSupported}
use Rattle.kernel_values.specs.declared.identity.Credentials.{Credentials}
use Rattle.pipe_sock.specs.Pipes as pipes
use Rattle.socket_tables.specs.Receiving.{reception}
use Rattle.socket_tables.specs.Sending.{sending}
use Rattle.socket_tables.specs.Sockets.{SocketsState}
use Rattle.socket_tables.specs.declared.receiving.Reception.{Reception}
use Rattle.socket_tables.specs.declared.sending.Outgoing.{Outgoing}
use Rattle.open_files.specs.Holding.{has_reader, has_writer}
use Rattle.open_files.specs.Kinds.{is_of_rules}
use Rattle.open_files.specs.declared.state.OpenFile.{OpenFile}
use Rattle.open_files.specs.declared.state.OpenFiles.{OpenFiles}
use Rattle.open_files.specs.declared.state.Place.{Place}
use Rattle.open_files.specs.declared.state.Place.TheVariants.{Current, At}

-- a read gives at least one byte
abbrev pub moves_bytes : Result (List ℕ) Errno → Bool
moves_bytes (Ok []) = false
moves_bytes (Ok (b ∷ bs)) = true
moves_bytes (Err e) = false

-- where a transfer of a file begins
abbrev pub place_of : OpenFile → Place → Result ℕ Errno
place_of f Current = Ok f.position
place_of f (At (pos n)) = Ok n
place_of f (At (negsuc n)) = Err InvalidArgument

-- what pipes answer, and the open files with them
abbrev pub on_pipes : {A : Type 0} → OpenFiles → Result A Errno × List (ℕ × List ℕ) → Result (A × OpenFiles) Errno
on_pipes s (Ok x, p) = Ok (x, record s { pipes = p })
on_pipes s (Err e, p) = Err e

-- the first bytes that wait in a pipe wait no more
abbrev pub with_bytes_taken : OpenFiles → ℕ → ℕ → OpenFiles
with_bytes_taken s inode count = record s { pipes = pipes.refilled s.pipes inode (drop count (pipes.waiting s.pipes inode)) }

-- a pipe has no offsets
abbrev pub read_pipe : OpenFiles → ℕ → ℕ → ℕ → Place → Result (List ℕ × OpenFiles) Errno
read_pipe s inode wanted room Current = on_pipes s (pipes.read s.pipes inode wanted room (has_writer s.files inode))
read_pipe s inode wanted room (At n) = Err IllegalSeek

abbrev pub write_pipe : OpenFiles → ℕ → ℕ → List ℕ → Place → Result (ℕ × OpenFiles) Errno
write_pipe s inode wanted piece Current = on_pipes s (pipes.write s.pipes inode wanted piece (has_reader s.files inode))
write_pipe s inode wanted piece (At n) = Err IllegalSeek

-- what sockets answer, and the open files with them
abbrev pub with_sockets : {A : Type 0} → OpenFiles → Result (A × SocketsState) Errno → Result (A × OpenFiles) Errno
with_sockets s (Ok x) = Ok (x.0, record s { sockets = x.1 })
with_sockets s (Err e) = Err e

-- what a socket gives: it has no offsets, and a socket of rule tables gives nothing
unfoldable pub receive_socket : OpenFiles → ℕ × OpenFile → ℕ → ℕ → Place → Result (Reception × OpenFiles) Errno
receive_socket s f wanted room (At n) = Err IllegalSeek
receive_socket s f wanted room Current =
    if is_of_rules f.1.kind then Err OperationNotSupported else with_sockets s (reception s.sockets f.0 wanted room)

-- what a write sends: to no address, without open files, and with the credentials of its process
abbrev pub plainly : Credentials → Outgoing
plainly own = record { rights = []; sender = own }

-- a write to a socket
unfoldable pub write_socket : OpenFiles → Credentials → ℕ × OpenFile → ℕ → List ℕ → Place → Result (ℕ × OpenFiles) Errno
write_socket s own f wanted piece (At n) = Err IllegalSeek
write_socket s own f wanted piece Current =
    if is_of_rules f.1.kind then Err OperationNotSupported else with_sockets s (sending s.sockets f.0 wanted piece None (plainly own))
