-- What a socket is ready for, as poll(2) tells it, and how many bytes wait in it, as FIONREAD of ioctl(2) tells it.
use Rattle.std.specs.Prelude.{ℕ, ◌==◌, ◌&&◌, ◌||◌, Bool, true, false, not, nat_le, is_some, length, Option, Some, None, unwrap_or, if◌then◌else◌}
use Rattle.number_maps.specs.NumberMap.{at}
use Rattle.socket_queues.specs.Queues.{first_length, free_room, waiting_bytes}
use Rattle.socket_tables.specs.Meeting.{is_connected}
use Rattle.socket_tables.specs.Receiving.{is_at_end}
use Rattle.socket_tables.specs.Sockets.{SocketsState, is_listening, is_stream, peer_of}
use Rattle.socket_tables.specs.declared.state.Socket.{Socket}

-- input: a connection waits, or a receive of one byte wouldn't answer EAGAIN
unfoldable pub has_input : SocketsState → Socket → Bool
has_input s k =
    if is_listening k.status.meeting then not (length k.waiting == 0)
    else not (length k.queue == 0) || (is_stream k && not (is_connected k)) || is_at_end s k

-- 4,096 bytes and one message are free at the peer, or it doesn't live
abbrev pub has_peer_room : Option Socket → Bool
has_peer_room None = true
has_peer_room (Some p) = nat_le 4096 (free_room p.queue)

-- output; a listening socket has none
unfoldable pub has_output : SocketsState → Socket → Bool
has_output s k = not (is_listening k.status.meeting) && has_peer_room (peer_of s k)

-- a stream whose peer is gone has hung up
unfoldable pub has_hung_up : SocketsState → Socket → Bool
has_hung_up s k = is_stream k && is_connected k && not (is_some (peer_of s k))

-- FIONREAD: all bytes that wait in a stream, or those of a datagram socket's first message
unfoldable pub bytes_waiting : Socket → ℕ
bytes_waiting k = if is_stream k then waiting_bytes k.queue else unwrap_or (first_length k.queue) 0
