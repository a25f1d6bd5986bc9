-- The lines of Unix sockets.
use Rattle.std.specs.Prelude.{ℕ, ◌+◌, ◌*◌, List, [], ◌∷◌, ◌++◌, codes, length}
use Rattle.std.specs.Int.{w64, cast_unsigned}
use Rattle.kernel_values.specs.OpenFlags.{to_word}
use Rattle.kernel_values.specs.declared.abi.AbiKind.{AbiKind}
use Rattle.kernel_values.specs.declared.identity.Credentials.{Credentials}
use Rattle.kernel_values.specs.declared.items.BacklogItem.{BacklogItem}
use Rattle.kernel_values.specs.declared.items.BoundItem.{BoundItem}
use Rattle.kernel_values.specs.declared.items.MessageItem.{MessageItem}
use Rattle.kernel_values.specs.declared.items.SocketItem.{SocketItem}
use Rattle.kernel_values.specs.declared.items.TimeoutsItem.{TimeoutsItem}
use Rattle.kernel_values.specs.declared.items.WaitingItem.{WaitingItem}
use Rattle.kernel_values.specs.declared.sockets.SocketKind.{SocketKind}
use Rattle.kernel_values.specs.declared.sockets.SocketKind.TheVariants as kinds
use Rattle.kernel_values.specs.declared.sockets.SocketState.{SocketState}
use Rattle.kernel_values.specs.declared.sockets.SocketState.TheVariants as states
use Rattle.report_text.specs.Fields.{bytes_line, bytes_text, mark, numbers_line, numbers_text}

unfoldable pub socket_word : SocketKind → List ℕ
socket_word kinds.Stream = codes " stream"
socket_word kinds.Datagram = codes " dgram"

abbrev pub state_number : SocketState → ℕ
state_number states.New = 0
state_number states.Listening = 1
state_number states.Connected = 2

-- what is shut: 1 for reading and 2 for writing
abbrev pub shut_number : SocketItem → ℕ
shut_number s = mark s.shut_read + 2 * mark s.shut_write

-- FLAGS INO STATE PEER SHUT PASS
abbrev pub socket_numbers : AbiKind → SocketItem → List ℕ
socket_numbers abi s =
    to_word abi s.flags ∷ s.inode ∷ state_number s.state ∷ s.peer ∷ shut_number s ∷ mark s.passes_credentials ∷ []

-- open SERIAL stream|dgram FLAGS INO STATE PEER SHUT PASS, with the flags as F_GETFL tells them to a process of this kind
unfoldable pub socket_text : AbiKind → SocketItem → List ℕ
socket_text abi s = codes "open" ++ numbers_text (s.serial ∷ []) ++ socket_word s.kind ++ numbers_text (socket_numbers abi s) ++ 10 ∷ []

-- bound SERIAL BYTES
unfoldable pub bound_text : BoundItem → List ℕ
bound_text b = bytes_line (codes "bound") (b.serial ∷ []) b.name

-- seconds and microseconds of receive, then those of send, as their two's complements in 64 bits
abbrev pub timeout_numbers : TimeoutsItem → List ℕ
timeout_numbers t =
    cast_unsigned w64 t.receive.seconds ∷ cast_unsigned w64 t.receive.micros ∷ cast_unsigned w64 t.send.seconds ∷ cast_unsigned w64 t.send.micros ∷ []

-- tmo SERIAL SECONDS MICROS SECONDS MICROS
unfoldable pub timeouts_text : TimeoutsItem → List ℕ
timeouts_text t = numbers_line (codes "tmo") (t.serial ∷ timeout_numbers t)

-- backlog SERIAL COUNT
unfoldable pub backlog_text : BacklogItem → List ℕ
backlog_text b = numbers_line (codes "backlog") (b.serial ∷ b.backlog ∷ [])

-- wait SERIAL CONNECTION
unfoldable pub wait_text : WaitingItem → List ℕ
wait_text w = numbers_line (codes "wait") (w.serial ∷ w.connection ∷ [])

-- PID UID GID
unfoldable pub sender_text : Credentials → List ℕ
sender_text c = numbers_text (c.pid ∷ c.uid ∷ c.gid ∷ [])

-- how many open files a message carries, and their serial numbers
unfoldable pub rights_text : List ℕ → List ℕ
rights_text rights = numbers_text (length rights ∷ []) ++ numbers_text rights

-- msg SERIAL BYTES COUNT SERIAL.. PID UID GID
unfoldable pub message_text : MessageItem → List ℕ
message_text m =
    codes "msg" ++ numbers_text (m.serial ∷ []) ++ bytes_text m.bytes ++ rights_text m.rights ++ sender_text m.credentials ++ 10 ∷ []
