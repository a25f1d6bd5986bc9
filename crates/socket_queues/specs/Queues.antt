-- The messages that wait in a socket. There is room for 65,536 bytes and 256 messages.
use Rattle.std.specs.Prelude.{ℕ, ◌-◌, ◌==◌, Bool, not, nat_lt, List, [], ◌∷◌, length, Option, Some, None, if◌then◌else◌}
use Rattle.std.specs.List.{flat_map, list_any, sum_by}
use Rattle.socket_queues.specs.declared.message.Message.{Message}

-- how many bytes wait
abbrev pub waiting_bytes : List Message → ℕ
waiting_bytes messages = sum_by (λ (m : Message). length m.bytes) messages

-- the bytes that wait, in their order
abbrev pub bytes_in : List Message → List ℕ
bytes_in messages = flat_map (λ (m : Message). m.bytes) messages

-- the bytes that there is room for, of a message more: none where 256 wait
abbrev pub free_room : List Message → ℕ
free_room messages = if nat_lt (length messages) 256 then 65536 - waiting_bytes messages else 0

-- the serial numbers of the open files that waiting messages carry, in their order
abbrev pub rights_in : List Message → List ℕ
rights_in messages = flat_map (λ (m : Message). m.rights) messages

-- a message carries an open file
abbrev pub carries : Message → ℕ → Bool
carries m serial = list_any (λ (n : ℕ). n == serial) m.rights

-- some message does
unfoldable pub carried : List Message → ℕ → Bool
carried messages serial = list_any (λ (m : Message). carries m serial) messages

-- a message carries open files
abbrev pub has_rights : Message → Bool
has_rights m = not (length m.rights == 0)

-- the message that is received first
abbrev pub first_of : List Message → Option Message
first_of [] = None
first_of (m ∷ later) = Some m

-- how many bytes it has
abbrev pub first_length : List Message → Option ℕ
first_length [] = None
first_length (m ∷ later) = Some (length m.bytes)
