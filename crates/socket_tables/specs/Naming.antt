-- What sockets are called: bind(2), getsockname(2) and getpeername(2).
use Rattle.std.specs.Prelude.{ℕ, true, is_some, List, [], Option, Some, None, ok_or, Result, Ok, ⊤}
use Rattle.kernel_values.specs.Outcome.{◌>>=◌, ◌>>◌, refused_if, settled}
use Rattle.kernel_values.specs.declared.errno.Errno.{Errno}
use Rattle.kernel_values.specs.declared.errno.Errno.TheVariants.{AddressInUse, InvalidArgument, NotConnected}
use Rattle.number_maps.specs.NumberMap.{at, changed}
use Rattle.socket_tables.specs.NameMap.{holder, named}
use Rattle.socket_tables.specs.Meeting.{called}
use Rattle.socket_tables.specs.Sockets.{SocketsState, peer_of, socket}
use Rattle.socket_tables.specs.declared.state.Socket.{Socket}

-- a name is a socket's own, and in use while it lives
abbrev pub with_name : SocketsState → ℕ → Socket → List ℕ → SocketsState
with_name s serial k name = record {
  entries = changed s.entries serial (record k { status = record k.status { bound = true }; name = name });
  names = named s.names name serial;
}

-- bind
abbrev pub bind : SocketsState → ℕ → List ℕ → Result ⊤ Errno × SocketsState
bind s serial name = settled s (do
  k ← socket s serial
  refused_if k.status.bound InvalidArgument
  refused_if (is_some (holder s.names name)) AddressInUse
  Ok (tt, with_name s serial k name))

-- getsockname
unfoldable pub own_name : SocketsState → ℕ → Result (List ℕ) Errno
own_name s serial = do
  k ← socket s serial
  Ok k.name

-- getpeername: the name that the peer has now
unfoldable pub peer_name : SocketsState → ℕ → Result (List ℕ) Errno
peer_name s serial = do
  k ← socket s serial
  p ← ok_or (peer_of s k) NotConnected
  Ok p.name

abbrev pub peer_called_as : SocketsState → Option Socket → List ℕ
peer_called_as s None = []
peer_called_as s (Some k) = called (peer_of s k)

-- what accept tells of a connection: the name of its peer, none where that is gone
unfoldable pub peer_called : SocketsState → ℕ → List ℕ
peer_called s serial = peer_called_as s (at s.entries serial)
