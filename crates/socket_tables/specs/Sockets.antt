-- Unix sockets by the serial numbers of their open files, and the names in use.
use Rattle.std.specs.Prelude.{ℕ, pos, ◌||◌, ◌==◌, Bool, false, List, [], ◌++◌, length, true, Option, Some, None, ok_or, Result, Ok, if◌then◌else◌}
use Rattle.std.specs.List.{list_any, sum_by}
use Rattle.std.specs.Map.{values_of}
use Rattle.kernel_values.specs.Outcome.{◌>>=◌}
use Rattle.kernel_values.specs.declared.errno.Errno.{Errno}
use Rattle.kernel_values.specs.declared.errno.Errno.TheVariants.{NotSocket}
use Rattle.kernel_values.specs.declared.sockets.SocketKind.{SocketKind}
use Rattle.kernel_values.specs.declared.sockets.SocketKind.TheVariants.{Stream, Datagram}
use Rattle.kernel_values.specs.declared.times.TimeVal.{TimeVal}
use Rattle.number_maps.specs.NumberMap.{at, changed, put, removed}
use Rattle.socket_queues.specs.Queues.{carried, rights_in}
use Rattle.socket_tables.specs.NameMap.{Names, unnamed}
use Rattle.socket_tables.specs.declared.state.Meeting.{Meeting}
use Rattle.socket_tables.specs.declared.state.Meeting.TheVariants.{New, Listening, Connected}
use Rattle.socket_tables.specs.declared.state.Socket.{Socket}
use Rattle.socket_tables.specs.declared.state.SocketStatus.{SocketStatus}

pub record SocketsState : Type 0 where
  pub entries : List (ℕ × Socket)
  pub names : Names

abbrev pub no_sockets : SocketsState
no_sockets = record { entries = []; names = [] }

-- the socket of an open file: ENOTSOCK where it is none
unfoldable pub socket : SocketsState → ℕ → Result Socket Errno
socket s serial = ok_or (at s.entries serial) NotSocket

abbrev pub is_stream_kind : SocketKind → Bool
is_stream_kind Stream = true
is_stream_kind Datagram = false

abbrev pub is_stream : Socket → Bool
is_stream k = is_stream_kind k.status.kind

-- an open file is a stream
unfoldable pub streams : SocketsState → ℕ → Result Bool Errno
streams s serial = do
  k ← socket s serial
  Ok (is_stream k)

-- the serial number of the peer, where there is or was one
abbrev pub peer_in : Meeting → Option ℕ
peer_in New = None
peer_in (Listening backlog) = None
peer_in (Connected peer) = Some peer

abbrev pub is_listening : Meeting → Bool
is_listening New = false
is_listening (Listening backlog) = true
is_listening (Connected peer) = false

-- the peer, where it lives
abbrev pub living : SocketsState → Option ℕ → Option Socket
living s None = None
living s (Some peer) = at s.entries peer

abbrev pub peer_of : SocketsState → Socket → Option Socket
peer_of s k = living s (peer_in k.status.meeting)

-- what a socket holds: the connections that wait in it, and the open files that messages carry
abbrev pub holds : Socket → List ℕ
holds k = k.waiting ++ rights_in k.queue

-- what the socket of a serial number holds; where there is none, nothing
abbrev pub held_by_as : Option Socket → List ℕ
held_by_as None = []
held_by_as (Some k) = holds k

abbrev pub held_by : List (ℕ × Socket) → ℕ → List ℕ
held_by entries serial = held_by_as (at entries serial)

-- a socket holds an open file
abbrev pub holds_one : Socket → ℕ → Bool
holds_one k serial = list_any (λ (n : ℕ). n == serial) k.waiting || carried k.queue serial

-- some socket does
unfoldable pub is_held : List (ℕ × Socket) → ℕ → Bool
is_held entries serial = list_any (λ (k : Socket). holds_one k serial) (values_of entries)

-- how many open files all sockets hold, each as often as it is held
abbrev pub total_held : List (ℕ × Socket) → ℕ
total_held entries = sum_by (λ (k : Socket). length (holds k)) (values_of entries)

abbrev pub no_time : TimeVal
no_time = record { seconds = pos 0; micros = pos 0 }

abbrev pub new_status : SocketKind → Meeting → SocketStatus
new_status kind meeting = record {
  kind = kind;
  meeting = meeting;
  bound = false;
  reading_shut = false;
  writing_shut = false;
  passes_credentials = false;
  receive_time = no_time;
  send_time = no_time;
}

-- a socket that nothing waits in, and that bind put no name on
abbrev pub new_socket : SocketKind → Meeting → List ℕ → Socket
new_socket kind meeting name = record { status = new_status kind meeting; name = name; waiting = []; queue = [] }

-- a socket of a new serial number
abbrev pub with_new : SocketsState → ℕ → SocketKind → Meeting → List ℕ → SocketsState
with_new s serial kind meeting name = record s { entries = put s.entries serial (new_socket kind meeting name) }

-- two sockets that are each other's peers
abbrev pub with_pair : SocketsState → ℕ → ℕ → SocketKind → SocketsState
with_pair s first second kind = with_new (with_new s first kind (Connected second) []) second kind (Connected first) []

-- another socket in the place of one
abbrev pub with_socket : SocketsState → ℕ → Socket → SocketsState
with_socket s serial k = record s { entries = changed s.entries serial k }

-- a socket changed, where there is one
abbrev pub adjusted_as : SocketsState → ℕ → (Socket → Socket) → Option Socket → SocketsState
adjusted_as s serial change None = s
adjusted_as s serial change (Some k) = with_socket s serial (change k)

abbrev pub adjusted : SocketsState → ℕ → (Socket → Socket) → SocketsState
adjusted s serial change = adjusted_as s serial change (at s.entries serial)

-- entries with another status of one socket, where there is one
abbrev pub with_status_at : List (ℕ × Socket) → ℕ → SocketStatus → Option Socket → List (ℕ × Socket)
with_status_at entries serial status None = entries
with_status_at entries serial status (Some k) = changed entries serial (record k { status = status })

-- what is set of a socket
abbrev pub with_status : SocketStatus → Socket → Socket
with_status status k = record k { status = status }

abbrev pub with_meeting : Meeting → Socket → Socket
with_meeting meeting k = with_status (record k.status { meeting = meeting }) k

-- a name that bind put on a socket goes with the socket
abbrev pub names_without : Names → Socket → Names
names_without names k = if k.status.bound then unnamed names k.name else names

abbrev pub without_as : SocketsState → ℕ → Option Socket → SocketsState
without_as s serial None = s
without_as s serial (Some k) = record { entries = removed s.entries serial; names = names_without s.names k }

-- the same without the socket of a serial number, where there is one
unfoldable pub without : SocketsState → ℕ → SocketsState
without s serial = without_as s serial (at s.entries serial)
