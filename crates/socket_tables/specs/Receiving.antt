-- What a socket receives: bytes, and with them open files, the sender's name and whose they are (unix(7)).
use Rattle.std.specs.Prelude.{ℕ, ◌==◌, ◌||◌, Bool, true, false, min, not, nat_lt, List, [], ◌∷◌, length, Option, Some, None, Result, Ok, Err, if◌then◌else◌}
use Rattle.kernel_values.specs.Outcome.{◌>>=◌, ◌>>◌, refused_if, settled}
use Rattle.kernel_values.specs.declared.errno.Errno.{Errno}
use Rattle.kernel_values.specs.declared.errno.Errno.TheVariants.{BadAddress, InvalidArgument, TryAgain}
use Rattle.kernel_values.specs.declared.identity.Credentials.{Credentials}
use Rattle.socket_queues.specs.Queues.{first_of}
use Rattle.socket_queues.specs.Taking.{Taken, datagram_taken, first_taken, nothing_taken, stream_taken}
use Rattle.socket_queues.specs.declared.message.Message.{Message}
use Rattle.socket_tables.specs.Meeting.{is_connected}
use Rattle.socket_tables.specs.Sockets.{SocketsState, adjusted, is_stream, living, peer_in, socket}
use Rattle.socket_tables.specs.declared.receiving.Reception.{Reception}
use Rattle.socket_tables.specs.declared.state.Socket.{Socket}

-- a peer that is gone, or whose writing is shut
abbrev pub is_done : Option Socket → Bool
is_done None = true
is_done (Some k) = k.status.writing_shut

-- the peer, where there is or was one, sends no more
abbrev pub sends_no_more : SocketsState → Option ℕ → Bool
sends_no_more s None = false
sends_no_more s (Some peer) = is_done (living s (Some peer))

-- where nothing waits, nothing more will come
abbrev pub is_at_end : SocketsState → Socket → Bool
is_at_end s k = k.status.reading_shut || sends_no_more s (peer_in k.status.meeting)

-- How many bytes are asked of a stream's messages: EINVAL where it isn't connected; where nothing waits none at the end, and else
-- EAGAIN; EFAULT where bytes could move and there is no room for them.
unfoldable pub stream_most : SocketsState → Socket → ℕ → ℕ → Result ℕ Errno
stream_most s k wanted room = do
  refused_if (not (is_connected k)) InvalidArgument
  if length k.queue == 0 then (do
    refused_if (not (is_at_end s k)) TryAgain
    Ok 0)
      else if wanted == 0 then Ok 0 else do
        refused_if (room == 0) BadAddress
        Ok (min wanted room)

-- How many bytes of the first datagram are moved: where nothing waits none at the end, and else EAGAIN; EFAULT where there is no room for all
-- of them, and then the datagram waits on.
abbrev pub datagram_most_of : SocketsState → Socket → ℕ → ℕ → Option Message → Result ℕ Errno
datagram_most_of s k wanted room None = do
  refused_if (not (is_at_end s k)) TryAgain
  Ok 0
datagram_most_of s k wanted room (Some m) = do
  refused_if (nat_lt room (min wanted (length m.bytes))) BadAddress
  Ok (min wanted (length m.bytes))

unfoldable pub datagram_most : SocketsState → Socket → ℕ → ℕ → Result ℕ Errno
datagram_most s k wanted room = datagram_most_of s k wanted room (first_of k.queue)

abbrev pub most_of : SocketsState → Socket → ℕ → ℕ → Result ℕ Errno
most_of s k wanted room = if is_stream k then stream_most s k wanted room else datagram_most s k wanted room

-- what so many bytes take of the messages that wait
abbrev pub taken_of : Socket → ℕ → Taken
taken_of k most = if is_stream k then stream_taken most k.queue else datagram_taken most k.queue

-- the first message that is taken: a stream takes none where no bytes are wanted
abbrev pub message_told : Socket → ℕ → Option Message
message_told k wanted = if is_stream k then first_taken wanted k.queue else first_of k.queue

-- the name that it carries
abbrev pub name_told : Option Message → List ℕ
name_told None = []
name_told (Some m) = m.name

-- whose it is, where the socket asks for that
abbrev pub credentials_told : Bool → Option Message → Option Credentials
credentials_told passes None = None
credentials_told passes (Some m) = if passes then Some m.sender else None

-- the rest of a datagram was lost
abbrev pub is_cut : Socket → ℕ → Option Message → Bool
is_cut k wanted None = false
is_cut k wanted (Some m) = if is_stream k then false else nat_lt wanted (length m.bytes)

abbrev pub told : Socket → ℕ → Taken → Reception
told k wanted t = record {
  bytes = t.bytes;
  rights = t.rights;
  from = name_told (message_told k wanted);
  credentials = credentials_told k.status.passes_credentials (message_told k wanted);
  cut = is_cut k wanted (message_told k wanted);
}

-- other messages wait in a socket
abbrev pub with_queue : List Message → Socket → Socket
with_queue messages k = record k { queue = messages }

-- A receive: `room` is how many bytes of those wanted can be stored from the first on.
abbrev pub reception : SocketsState → ℕ → ℕ → ℕ → Result (Reception × SocketsState) Errno
reception s serial wanted room = do
  k ← socket s serial
  most ← most_of s k wanted room
  Ok (told k wanted (taken_of k most), adjusted s serial (with_queue (taken_of k most).left))

abbrev pub receive : SocketsState → ℕ → ℕ → ℕ → Result Reception Errno × SocketsState
receive s serial wanted room = settled s (reception s serial wanted room)

-- a receive gives at least one byte
abbrev pub gives_bytes : Result Reception Errno → Bool
gives_bytes (Ok r) = not (length r.bytes == 0)
gives_bytes (Err e) = false
