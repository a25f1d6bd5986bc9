-- What receives of a stream keep.
use Rattle.std.specs.Prelude.{◌≡◌, ◌<◌, ℕ, true, false, List, [], ◌∷◌, ◌++◌, length}
use Rattle.std.specs.List.{All}
use Rattle.socket_queues.specs.Queues.{bytes_in, has_rights, rights_in}
use Rattle.socket_queues.specs.Taking.{Taken, nothing_taken, stream_taken}
use Rattle.socket_queues.specs.declared.message.Message.{Message}

-- what was taken, and then what is taken of the messages left
abbrev pub then_taken : Taken → Taken → Taken
then_taken t u = record { bytes = t.bytes ++ u.bytes; rights = t.rights ++ u.rights; left = u.left }

-- what receives take that want so many bytes, one after another
unfoldable pub received : List ℕ → List Message → Taken
received [] messages = nothing_taken messages
received (n ∷ ns) messages = then_taken (stream_taken n messages) (received ns (stream_taken n messages).left)

-- the bytes that were taken and those that wait still are those that waited, over any cut
abbrev pub BytesComeOnce : Type 0
BytesComeOnce =
    (wanted : List ℕ) (messages : List Message)
    → (received wanted messages).bytes ++ bytes_in (received wanted messages).left ≡ bytes_in messages

-- open files likewise
abbrev pub RightsComeOnce : Type 0
RightsComeOnce =
    (wanted : List ℕ) (messages : List Message)
    → (received wanted messages).rights ++ rights_in (received wanted messages).left ≡ rights_in messages

-- some of the bytes wanted come, where the first message has any
abbrev pub WantedBytesCome : Type 0
WantedBytesCome =
    (n : ℕ) (m : Message) (later : List Message) → 0 < n → 0 < length m.bytes → 0 < length (stream_taken n (m ∷ later)).bytes

-- a receive took no open file and nothing of some messages
pub record Leaves (t : Taken) (messages : List Message) : Type 0 where
  pub front : List Message
  pub left : t.left ≡ front ++ messages
  pub rights : t.rights ≡ []

-- behind a message that carries none, a message that carries open files waits on, and those behind it
abbrev pub StreamStopsBeforeRights : Type 0
StreamStopsBeforeRights =
    (n : ℕ) (first : Message) (between : List Message) (m : Message) (later : List Message)
    → All (λ (k : Message). has_rights k ≡ false) (first ∷ between)
    → has_rights m ≡ true
    → Leaves (stream_taken n (first ∷ between ++ m ∷ later)) (m ∷ later)
