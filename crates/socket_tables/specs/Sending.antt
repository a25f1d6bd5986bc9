-- What goes from socket to socket: sends on streams and of datagrams (unix(7)).
use Rattle.std.specs.Prelude.{ℕ, ◌+◌, ◌<◌, ◌≤◌, ◌==◌, ◌&&◌, Bool, min, not, nat_le, nat_lt, List, [], ◌∷◌, ◌++◌, length, take, Option, Some, None, ok_or, Result, Ok, Err, if◌then◌else◌, ⊤}
use Rattle.kernel_values.specs.Outcome.{◌>>=◌, ◌>>◌, refused_if, settled}
use Rattle.kernel_values.specs.declared.errno.Errno.{Errno}
use Rattle.kernel_values.specs.declared.errno.Errno.TheVariants.{AlreadyConnected, BadAddress, BrokenPipe, ConnectionRefused, MessageTooLong, NotConnected, OperationNotSupported, TryAgain}
use Rattle.number_maps.specs.NumberMap.{at}
use Rattle.socket_queues.specs.Queues.{free_room, waiting_bytes}
use Rattle.socket_queues.specs.declared.message.Message.{Message}
use Rattle.socket_tables.specs.Meeting.{is_connected, named_socket}
use Rattle.socket_tables.specs.Sockets.{SocketsState, adjusted, is_stream, peer_in, socket}
use Rattle.socket_tables.specs.declared.sending.Going.{Going}
use Rattle.socket_tables.specs.declared.sending.Outgoing.{Outgoing}
use Rattle.socket_tables.specs.declared.state.Socket.{Socket}

-- a message of bytes with the open files and the credentials that go with them, which tells the name that its sender has now
abbrev pub message_of : Socket → Outgoing → List ℕ → Message
message_of from sent bytes = record { bytes = bytes; rights = sent.rights; sender = sent.sender; name = from.name }

-- the queue of a socket that is there takes a message of so many bytes more
abbrev pub HasRoomFor : Option Socket → ℕ → Type 0
HasRoomFor None count = ⊥
HasRoomFor (Some k) count = (waiting_bytes k.queue + count ≤ 65536) × (length k.queue < 256)

-- bytes go to a socket that has room for them, no more than are wanted and are there
abbrev pub IsGoing : SocketsState → ℕ → List ℕ → Going → Type 0
IsGoing s wanted piece g = HasRoomFor (at s.entries g.there) g.count × (g.count ≤ wanted) × (g.count ≤ length piece)

-- a stream takes no address: EISCONN where it is connected, and else EOPNOTSUPP
abbrev pub stream_address : Socket → Option (List ℕ) → Result ⊤ Errno
stream_address k None = Ok tt
stream_address k (Some name) = Err (if is_connected k then AlreadyConnected else OperationNotSupported)

-- the peer that takes what a stream sends: ENOTCONN, and EPIPE where writing is shut, or the peer is gone or reads no more
unfoldable pub reader_of : SocketsState → Socket → Result (ℕ × Socket) Errno
reader_of s k = do
  peer ← ok_or (peer_in k.status.meeting) NotConnected
  refused_if k.status.writing_shut BrokenPipe
  there ← ok_or (at s.entries peer) BrokenPipe
  refused_if there.status.reading_shut BrokenPipe
  Ok (peer, there)

-- A stream: of the bytes wanted as many as fit and could be taken from memory. Of no byte nothing goes.
unfoldable pub stream_goes : SocketsState → Socket → ℕ → List ℕ → Result (Option Going) Errno
stream_goes s k wanted piece = do
  there ← reader_of s k
  if wanted == 0 then Ok None else do
    refused_if (free_room there.1.queue == 0) TryAgain
    refused_if (length piece == 0) BadAddress
    Ok (Some (record { there = there.0; count = min (min wanted (free_room there.1.queue)) (length piece) }))

-- the peer of a datagram socket, which may be gone
unfoldable pub datagram_peer : SocketsState → Socket → Result (ℕ × Socket) Errno
datagram_peer s k = do
  peer ← ok_or (peer_in k.status.meeting) NotConnected
  refused_if k.status.writing_shut BrokenPipe
  there ← ok_or (at s.entries peer) ConnectionRefused
  Ok (peer, there)

-- the datagram socket of a name
unfoldable pub datagram_named : SocketsState → Socket → List ℕ → Result (ℕ × Socket) Errno
datagram_named s k name = do
  refused_if k.status.writing_shut BrokenPipe
  there ← named_socket s name
  refused_if (is_stream there.1) ConnectionRefused
  Ok there

-- where a datagram goes: to the name given, and else to the peer
abbrev pub datagram_target : SocketsState → Socket → Option (List ℕ) → Result (ℕ × Socket) Errno
datagram_target s k None = datagram_peer s k
datagram_target s k (Some name) = datagram_named s k name

-- there is room for a datagram whole
abbrev pub has_room_for : List Message → ℕ → Bool
has_room_for queue wanted = nat_lt (length queue) 256 && nat_le wanted (free_room queue)

-- a datagram: whole, or not at all
unfoldable pub datagram_goes : SocketsState → Socket → ℕ → List ℕ → Option (List ℕ) → Result (Option Going) Errno
datagram_goes s k wanted piece to = do
  there ← datagram_target s k to
  refused_if (nat_lt 65536 wanted) MessageTooLong
  refused_if (not (has_room_for there.1.queue wanted)) TryAgain
  refused_if (nat_lt (length piece) wanted) BadAddress
  Ok (Some (record { there = there.0; count = wanted }))

abbrev pub goes : SocketsState → Socket → ℕ → List ℕ → Option (List ℕ) → Result (Option Going) Errno
goes s k wanted piece to = if is_stream k then (stream_address k to >> stream_goes s k wanted piece) else datagram_goes s k wanted piece to

-- a message waits behind the others of a socket
abbrev pub with_message : Message → Socket → Socket
with_message m k = record k { queue = k.queue ++ m ∷ [] }

-- the bytes as one message more, and how many
abbrev pub gone : SocketsState → Socket → Outgoing → List ℕ → Option Going → ℕ × SocketsState
gone s k sent piece None = (0, s)
gone s k sent piece (Some g) = (g.count, adjusted s g.there (with_message (message_of k sent (take g.count piece))))

-- A send, to an address or none. `piece` are the bytes wanted up to the first that can't be read.
abbrev pub sending : SocketsState → ℕ → ℕ → List ℕ → Option (List ℕ) → Outgoing → Result (ℕ × SocketsState) Errno
sending s serial wanted piece to sent = do
  k ← socket s serial
  g ← goes s k wanted piece to
  Ok (gone s k sent piece g)

abbrev pub send : SocketsState → ℕ → ℕ → List ℕ → Option (List ℕ) → Outgoing → Result ℕ Errno × SocketsState
send s serial wanted piece to sent = settled s (sending s serial wanted piece to sent)
