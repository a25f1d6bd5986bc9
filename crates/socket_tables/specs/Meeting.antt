-- How sockets come together: listen(2), connect(2), accept(2) and shutdown(2).
use Rattle.std.specs.Prelude.{ℕ, ℤ, pos, negsuc, ◌||◌, ◌&&◌, Bool, min, not, nat_lt, int_le, is_some, List, [], ◌∷◌, ◌++◌, length, drop, Option, Some, None, ok_or, Result, Ok, Err, ⊤}
use Rattle.std.specs.Ordering.{int_eq}
use Rattle.kernel_values.specs.Outcome.{◌>>=◌, ◌>>◌, refused_if, settled}
use Rattle.kernel_values.specs.declared.errno.Errno.{Errno}
use Rattle.kernel_values.specs.declared.errno.Errno.TheVariants.{AlreadyConnected, ConnectionRefused, InvalidArgument, OperationNotSupported, TryAgain, WrongSocketType}
use Rattle.kernel_values.specs.declared.sockets.SocketKind.TheVariants.{Stream}
use Rattle.number_maps.specs.NumberMap.{at}
use Rattle.socket_tables.specs.NameMap.{holder}
use Rattle.socket_tables.specs.Sockets.{SocketsState, adjusted, is_listening, is_stream, peer_in, socket, with_meeting, with_new, with_status}
use Rattle.socket_tables.specs.declared.state.Meeting.{Meeting}
use Rattle.socket_tables.specs.declared.state.Meeting.TheVariants.{New, Listening, Connected}
use Rattle.socket_tables.specs.declared.state.Socket.{Socket}
use Rattle.socket_tables.specs.declared.state.SocketStatus.{SocketStatus}

-- a socket has a peer, or had one that is gone
abbrev pub is_connected : Socket → Bool
is_connected k = is_some (peer_in k.status.meeting)

-- a backlog is cut to 128, and a negative one is 128
abbrev pub backlog_of : ℤ → ℕ
backlog_of (pos n) = min n 128
backlog_of (negsuc n) = 128

-- listen; again it changes the backlog
abbrev pub listen : SocketsState → ℕ → ℤ → Result ⊤ Errno × SocketsState
listen s serial backlog = settled s (do
  k ← socket s serial
  refused_if (not (is_stream k)) OperationNotSupported
  refused_if (not k.status.bound || is_connected k) InvalidArgument
  Ok (tt, adjusted s serial (with_meeting (Listening (backlog_of backlog)))))

-- the socket that has a name, with its serial number
unfoldable pub named_socket : SocketsState → List ℕ → Result (ℕ × Socket) Errno
named_socket s name = do
  serial ← ok_or (holder s.names name) ConnectionRefused
  k ← ok_or (at s.entries serial) ConnectionRefused
  Ok (serial, k)

-- how many connections may wait, but for one more
abbrev pub backlog_in : Meeting → Result ℕ Errno
backlog_in (Listening backlog) = Ok backlog
backlog_in New = Err ConnectionRefused
backlog_in (Connected peer) = Err ConnectionRefused

-- the listening socket that a stream's connect meets, and that takes one connection more
unfoldable pub listener : SocketsState → ℕ → List ℕ → Result ℕ Errno
listener s caller name = do
  k ← socket s caller
  refused_if (is_connected k) AlreadyConnected
  refused_if (is_listening k.status.meeting) InvalidArgument
  there ← named_socket s name
  refused_if (not (is_stream there.1)) WrongSocketType
  backlog ← backlog_in there.1.status.meeting
  refused_if (nat_lt backlog (length there.1.waiting)) TryAgain
  Ok there.0

-- a connection waits behind the others to be accepted
abbrev pub with_waiting : ℕ → Socket → Socket
with_waiting connection k = record k { waiting = k.waiting ++ connection ∷ [] }

-- what a socket that may be gone is called
abbrev pub called : Option Socket → List ℕ
called None = []
called (Some k) = k.name

-- A stream is connected at once: its peer is a new socket, which has the listener's name without being bound to it, and waits to be
-- accepted.
abbrev pub with_connection : SocketsState → ℕ → ℕ → ℕ → SocketsState
with_connection s caller there connection =
    let t = with_new s connection Stream (Connected caller) (called (at s.entries there)) in
    adjusted (adjusted t there (with_waiting connection)) caller (with_meeting (Connected connection))

-- connect of a datagram socket: it takes a new peer
abbrev pub datagram_connected : SocketsState → ℕ → List ℕ → Result (⊤ × SocketsState) Errno
datagram_connected s serial name = do
  k ← socket s serial
  there ← named_socket s name
  refused_if (is_stream there.1) WrongSocketType
  Ok (tt, adjusted s serial (with_meeting (Connected there.0)))

abbrev pub connect_datagram : SocketsState → ℕ → List ℕ → Result ⊤ Errno × SocketsState
connect_datagram s serial name = settled s (datagram_connected s serial name)

-- the connection that has waited longest
abbrev pub first_waiting : List ℕ → Result ℕ Errno
first_waiting [] = Err TryAgain
first_waiting (serial ∷ others) = Ok serial

-- the connection that accept takes from a listening socket
unfoldable pub first_connection : Socket → Result ℕ Errno
first_connection k = do
  refused_if (not (is_stream k)) OperationNotSupported
  refused_if (not (is_listening k.status.meeting)) InvalidArgument
  first_waiting k.waiting

-- it waits no more
abbrev pub without_first : Socket → Socket
without_first k = record k { waiting = drop 1 k.waiting }

-- shutdown marks what isn't marked yet
abbrev pub shut_status : ℤ → SocketStatus → SocketStatus
shut_status how status = record status {
  reading_shut = status.reading_shut || not (int_eq how (pos 1));
  writing_shut = status.writing_shut || not (int_eq how (pos 0));
}

abbrev pub with_shut : ℤ → Socket → Socket
with_shut how k = with_status (shut_status how k.status) k

-- shutdown: 0 shuts reading, 1 writing and 2 both, of a socket that isn't connected too
abbrev pub shut : SocketsState → ℕ → ℤ → Result ⊤ Errno × SocketsState
shut s serial how = settled s (do
  k ← socket s serial
  refused_if (not (int_le (pos 0) how && int_le how (pos 2))) InvalidArgument
  Ok (tt, adjusted s serial (with_shut how)))
