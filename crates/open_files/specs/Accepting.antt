-- accept(2) and accept4: a connection that waits gets a descriptor.
use Rattle.std.specs.Prelude.{ℕ, ℤ, not, List, Option, Some, None, Result, Ok}
use Rattle.std.specs.Int.RustNames.{bit_and, bit_or}
use Rattle.kernel_values.specs.Outcome.{◌>>=◌, ◌>>◌, refused_if, settled}
use Rattle.kernel_values.specs.declared.errno.Errno.{Errno}
use Rattle.kernel_values.specs.declared.errno.Errno.TheVariants.{InvalidArgument, OperationNotSupported, TableFull}
use Rattle.number_maps.specs.NumberMap.{at}
use Rattle.socket_tables.specs.Meeting.{first_connection, without_first}
use Rattle.socket_tables.specs.Naming.{peer_called}
use Rattle.socket_tables.specs.Sockets.{adjusted, socket}
use Rattle.open_files.specs.Descriptors.{open_file, with_descriptor, with_open_file}
use Rattle.open_files.specs.Kinds.{is_of_rules}
use Rattle.open_files.specs.Made.{is_full}
use Rattle.open_files.specs.Numbers.{free_number}
use Rattle.open_files.specs.Piping.{is_pipe_flags, marks_close}
use Rattle.open_files.specs.declared.accepting.Acceptance.{Acceptance}
use Rattle.open_files.specs.declared.accepting.Accepted.{Accepted}
use Rattle.open_files.specs.declared.state.OpenFile.{OpenFile}
use Rattle.open_files.specs.declared.state.OpenFiles.{OpenFiles}

-- What an accept would do. What a new descriptor refuses comes first; the flags are those of pipe2.
unfoldable pub acceptance : OpenFiles → ℕ → ℤ → ℕ → Result Acceptance Errno
acceptance s limit fd flags = do
  f ← open_file s fd
  n ← free_number s 0 limit
  refused_if (is_full s.made) TableFull
  refused_if (is_of_rules f.1.kind) OperationNotSupported
  k ← socket s.sockets f.0
  refused_if (not (is_pipe_flags flags)) InvalidArgument
  c ← first_connection k
  Ok (record { listener = f.0; connection = c; told = record { number = n; peer = peer_called s.sockets c } })

-- an accepted connection is non-blocking where that is asked for
abbrev pub unblocked_as : OpenFiles → ℕ → ℕ → Option OpenFile → OpenFiles
unblocked_as s serial flags None = s
unblocked_as s serial flags (Some f) = with_open_file s serial (record f { flags = record { 0 = bit_or f.flags.0 (bit_and flags 0x800) } })

-- the connection that waited longest waits no more, and a descriptor names it
unfoldable pub accepted : OpenFiles → Acceptance → ℕ → OpenFiles
accepted s a flags =
    let t : OpenFiles = record s { sockets = adjusted s.sockets a.listener without_first } in
    let u : OpenFiles = with_descriptor t a.told.number (record { serial = a.connection; cloexec = marks_close flags }) in
    unblocked_as u a.connection flags (at u.files a.connection)

-- accept and accept4: the descriptor, and the name that the peer has now
abbrev pub accept : OpenFiles → ℕ → ℤ → ℕ → Result Accepted Errno × OpenFiles
accept s limit fd flags = settled s (do
  a ← acceptance s limit fd flags
  Ok (a.told, accepted s a flags))
