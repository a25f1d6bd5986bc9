-- How many bytes wait.
use Rattle.std.proofs.Common.{◌≡◌, ℕ, ◌+◌, List, [], ◌∷◌, ◌++◌, length, ap, sym, ◌∙◌, zero-add, append_assoc, length-append}
use Rattle.std.proofs.lemmas.List.{append-nil}
use Rattle.std.proofs.lemmas.List.Sums.{sum_by-append}
use Rattle.socket_queues.specs.Queues.{rights_in, waiting_bytes}
use Rattle.socket_queues.specs.declared.message.Message.{Message}

-- one message more
pub one_behind : (messages : List Message) (m : Message) → waiting_bytes (messages ++ m ∷ []) ≡ waiting_bytes messages + length m.bytes
one_behind messages m = sum_by-append (λ (k : Message). length k.bytes) messages (m ∷ []) ∙ ap (λ (n : ℕ). waiting_bytes messages + n) (zero-add (length m.bytes))

-- the first message's rights stand before those of the others
pub first_rights : (held rights : List ℕ) (m : Message) (messages later : List Message) → messages ≡ m ∷ later → rights ≡ m.rights
    → (held ++ rights) ++ rights_in later ≡ held ++ rights_in messages
first_rights held rights m messages later first same = rw (first, same) (append_assoc held m.rights (rights_in later))

pub first_count : (m : Message) (messages later : List Message) → messages ≡ m ∷ later → length (rights_in messages) ≡ length m.rights + length (rights_in later)
first_count m messages later first = rw first (length-append m.rights (rights_in later))

pub no_rights : (held : List ℕ) (messages : List Message) → messages ≡ [] → held ≡ held ++ rights_in messages
no_rights held messages none = rw none (sym (append-nil held))
