-- What is told of a socket behind its own line, item by item, and what of it is left at a place.
use Rattle.std.specs.Prelude.{ℕ, pos, ◌&&◌, Bool, List, [], ◌∷◌, ◌++◌, drop, map, Option, Some, None, if◌then◌else◌}
use Rattle.std.specs.Ordering.{int_eq}
use Rattle.kernel_values.specs.declared.items.StateItem.{StateItem}
use Rattle.kernel_values.specs.declared.items.StateItem.TheVariants as item
use Rattle.kernel_values.specs.declared.sockets.SocketState.{SocketState}
use Rattle.kernel_values.specs.declared.sockets.SocketState.TheVariants as states
use Rattle.kernel_values.specs.declared.times.TimeVal.{TimeVal}
use Rattle.number_maps.specs.NumberMap.{at}
use Rattle.socket_queues.specs.declared.message.Message.{Message}
use Rattle.socket_tables.specs.Sockets.{SocketsState}
use Rattle.socket_tables.specs.declared.items.SocketPart.{SocketPart}
use Rattle.socket_tables.specs.declared.items.SocketPart.TheVariants as part
use Rattle.socket_tables.specs.declared.state.Meeting.{Meeting}
use Rattle.socket_tables.specs.declared.state.Meeting.TheVariants.{New, Listening, Connected}
use Rattle.socket_tables.specs.declared.state.Socket.{Socket}

abbrev pub state_told : Meeting → SocketState
state_told New = states.New
state_told (Listening backlog) = states.Listening
state_told (Connected peer) = states.Connected

-- the serial number of a peer that lives, and 0 where there is none
abbrev pub number_if : Option Socket → ℕ → ℕ
number_if None peer = 0
number_if (Some k) peer = peer

abbrev pub peer_told : SocketsState → Meeting → ℕ
peer_told s New = 0
peer_told s (Listening backlog) = 0
peer_told s (Connected peer) = number_if (at s.entries peer) peer

-- the name that bind put on it
abbrev pub bound_items : ℕ → Socket → List StateItem
bound_items serial k = if k.status.bound then item.Bound (record { serial = serial; name = k.name }) ∷ [] else []

abbrev pub is_no_time : TimeVal → Bool
is_no_time t = int_eq t.seconds (pos 0) && int_eq t.micros (pos 0)

-- its times, where one isn't zero
abbrev pub timeouts_items : ℕ → Socket → List StateItem
timeouts_items serial k =
    if is_no_time k.status.receive_time && is_no_time k.status.send_time then []
    else item.Timeouts (record { serial = serial; receive = k.status.receive_time; send = k.status.send_time }) ∷ []

-- how many connections may wait, of a listening one
abbrev pub backlog_items : ℕ → Meeting → List StateItem
backlog_items serial New = []
backlog_items serial (Listening backlog) = item.Backlog (record { serial = serial; backlog = backlog }) ∷ []
backlog_items serial (Connected peer) = []

abbrev pub waiting_item : ℕ → ℕ → StateItem
waiting_item serial connection = item.Waiting (record { serial = serial; connection = connection })

abbrev pub message_item : ℕ → Message → StateItem
message_item serial m = item.Message (record { serial = serial; bytes = m.bytes; rights = m.rights; credentials = m.sender })

-- What is left of a part is followed by all of the later parts. The last part: messages, from one of them on.
abbrev pub messages_left : ℕ → Socket → ℕ → List StateItem
messages_left serial k index = map (message_item serial) (drop index k.queue)

-- connections that wait, from one of them on
abbrev pub waiting_left : ℕ → Socket → ℕ → List StateItem
waiting_left serial k index = map (waiting_item serial) (drop index k.waiting) ++ messages_left serial k 0

abbrev pub backlog_left : ℕ → Socket → List StateItem
backlog_left serial k = backlog_items serial k.status.meeting ++ waiting_left serial k 0

abbrev pub timeouts_left : ℕ → Socket → List StateItem
timeouts_left serial k = timeouts_items serial k ++ backlog_left serial k

abbrev pub bound_left : ℕ → Socket → List StateItem
bound_left serial k = bound_items serial k ++ timeouts_left serial k

-- the items of a socket that are left at a place
unfoldable pub socket_left : ℕ → Socket → SocketPart → List StateItem
socket_left serial k part.Bound = bound_left serial k
socket_left serial k part.Timeouts = timeouts_left serial k
socket_left serial k part.Backlog = backlog_left serial k
socket_left serial k (part.Waiting index) = waiting_left serial k index
socket_left serial k (part.Messages index) = messages_left serial k index
