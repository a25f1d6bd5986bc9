-- What receives take of the messages that wait (unix(7)).
use Rattle.std.specs.Prelude.{ℕ, ◌-◌, ◌==◌, ◌&&◌, ◌||◌, Bool, false, nat_lt, List, [], ◌∷◌, ◌++◌, length, take, drop, Option, None, if◌then◌else◌}
use Rattle.socket_queues.specs.Queues.{first_of, has_rights}
use Rattle.socket_queues.specs.declared.message.Message.{Message}

-- what a receive takes: bytes and open files, and the messages that wait still
pub record Taken : Type 0 where
  pub bytes : List ℕ
  pub rights : List ℕ
  pub left : List Message

-- nothing is taken
abbrev pub nothing_taken : List Message → Taken
nothing_taken messages = record { bytes = []; rights = []; left = messages }

-- a message whose first bytes are taken; its open files went with the first of them
abbrev pub rest_of : ℕ → Message → Message
rest_of n m = record m { bytes = drop n m.bytes; rights = [] }

-- what is left of a message and those behind it, where its first bytes are taken
abbrev pub left_of : ℕ → Message → List Message → List Message
left_of n m later = if nat_lt n (length m.bytes) then rest_of n m ∷ later else later

-- bytes in front of what is taken of the messages behind them
abbrev pub with_front : List ℕ → Taken → Taken
with_front bytes t = record t { bytes = bytes ++ t.bytes }

-- bytes over messages in their order, up to the first that carries open files
unfoldable pub plain_taken : ℕ → List Message → Taken
plain_taken n [] = nothing_taken []
plain_taken n (m ∷ later) =
    if has_rights m || (n == 0) then nothing_taken (m ∷ later)
    else if nat_lt n (length m.bytes) then record { bytes = take n m.bytes; rights = []; left = rest_of n m ∷ later }
    else with_front m.bytes (plain_taken (n - length m.bytes) later)

-- the first message carries open files
abbrev pub is_first_with_rights : List Message → Bool
is_first_with_rights [] = false
is_first_with_rights (m ∷ later) = has_rights m

abbrev pub stream_taken_as : ℕ → List Message → Taken
stream_taken_as n [] = nothing_taken []
stream_taken_as n (m ∷ later) =
    if has_rights m && nat_lt 0 n then record { bytes = take n m.bytes; rights = m.rights; left = left_of n m later }
    else plain_taken n (m ∷ later)

-- A stream gives bytes over messages in their order, but none past the end of a message with open files, and none of such a
-- message behind another one.
unfoldable pub stream_taken : ℕ → List Message → Taken
stream_taken n messages = stream_taken_as n messages

-- a datagram is taken whole, and what is behind the bytes wanted is lost
abbrev pub datagram_taken : ℕ → List Message → Taken
datagram_taken n [] = nothing_taken []
datagram_taken n (m ∷ later) = record { bytes = take n m.bytes; rights = m.rights; left = later }

-- the first message of which a stream's receive takes something: none where no bytes are wanted
abbrev pub first_taken : ℕ → List Message → Option Message
first_taken n messages = if n == 0 then None else first_of messages
