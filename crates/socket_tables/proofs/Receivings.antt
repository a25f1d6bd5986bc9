-- Open files that come with what is received.
use Rattle.std.proofs.Common.{◌≡◌, ◌≤◌, ℕ, ◌+◌, ◌-◌, ◌==◌, ◌||◌, ◌&&◌, nat_lt, min, take, Bool, true, false, List, [], ◌∷◌, length, Some, refl, arith, length-append, zero-add, sym, ap, ◌∙◌}
use Rattle.std.proofs.lemmas.Grind.{common_steps}
use Rattle.std.specs.List.{sum_by}
use Rattle.socket_queues.specs.Queues.{first_length, has_rights, rights_in, waiting_bytes}
use Rattle.socket_queues.specs.Taking.{Taken, datagram_taken, plain_taken, stream_taken}
use Rattle.socket_queues.specs.declared.message.Message.{Message}
use Rattle.socket_queues.proofs.Kept.{stream_rights}
use Rattle.socket_tables.specs.Receiving.{taken_of}
use Rattle.socket_tables.specs.Sockets.{is_stream}
use Rattle.socket_tables.specs.declared.state.Socket.{Socket}

stream_kept : (n : ℕ) (messages : List Message) → length (stream_taken n messages).rights + length (rights_in (stream_taken n messages).left) ≡ length (rights_in messages)
stream_kept n messages = sym (length-append (stream_taken n messages).rights (rights_in (stream_taken n messages).left)) ∙ ap length (stream_rights n messages)

datagram_kept : (n : ℕ) (messages : List Message) → length (datagram_taken n messages).rights + length (rights_in (datagram_taken n messages).left) ≡ length (rights_in messages)
datagram_kept n [] = refl
datagram_kept n (m ∷ later) = sym (length-append m.rights (rights_in later))

-- open files that are taken, and those that messages carry still
pub rights_kept : (k : Socket) (most : ℕ) → length (taken_of k most).rights + length (rights_in (taken_of k most).left) ≡ length (rights_in k.queue)
rights_kept k most = go (is_stream k) refl
  where
    go : (b : Bool) → is_stream k ≡ b → length (taken_of k most).rights + length (rights_in (taken_of k most).left) ≡ length (rights_in k.queue)
    go true e = rw e (stream_kept most k.queue)
    go false e = rw e (datagram_kept most k.queue)

-- ---- no more bytes are taken than are asked for
take_within : (n : ℕ) (bytes : List ℕ) → length (take n bytes) ≤ n
take_within n bytes = grind (arith, common_steps)

plain_within : (messages : List Message) (n : ℕ) → length (plain_taken n messages).bytes ≤ n
unfolding plain_taken
plain_within [] n = omega arith
plain_within (m ∷ later) n = stops (has_rights m || (n == 0)) refl (plain_within later (n - length m.bytes))
  where
    fits : (b : Bool) → nat_lt n (length m.bytes) ≡ b → (has_rights m || (n == 0)) ≡ false → length (plain_taken (n - length m.bytes) later).bytes ≤ n - length m.bytes → length (plain_taken n (m ∷ later)).bytes ≤ n
    fits true e f rest = rw (f, e) (take_within n m.bytes)
    fits false e f rest =
        let long = length-append m.bytes (plain_taken (n - length m.bytes) later).bytes in
        let room : length m.bytes ≤ n = grind (arith, common_steps) in
        rw (f, e) (omega (arith, rest, long, room))

    stops : (b : Bool) → (has_rights m || (n == 0)) ≡ b → length (plain_taken (n - length m.bytes) later).bytes ≤ n - length m.bytes → length (plain_taken n (m ∷ later)).bytes ≤ n
    stops true e rest = rw e (omega arith)
    stops false e rest = fits (nat_lt n (length m.bytes)) refl e rest

pub stream_within : (n : ℕ) (messages : List Message) → length (stream_taken n messages).bytes ≤ n
unfolding stream_taken
stream_within n [] = omega arith
stream_within n (m ∷ later) = go (has_rights m && nat_lt 0 n) refl
  where
    go : (b : Bool) → (has_rights m && nat_lt 0 n) ≡ b → length (stream_taken n (m ∷ later)).bytes ≤ n
    go true e = rw e (take_within n m.bytes)
    go false e = rw e (plain_within (m ∷ later) n)

datagram_within : (n : ℕ) (messages : List Message) → length (datagram_taken n messages).bytes ≤ n
datagram_within n [] = omega arith
datagram_within n (m ∷ later) = take_within n m.bytes

pub taken_within : (k : Socket) (most : ℕ) → length (taken_of k most).bytes ≤ most
taken_within k most = go (is_stream k) refl
  where
    go : (b : Bool) → is_stream k ≡ b → length (taken_of k most).bytes ≤ most
    go true e = rw e (stream_within most k.queue)
    go false e = rw e (datagram_within most k.queue)

-- ---- the first message has no more bytes than all
pub first_within : (messages : List Message) (n : ℕ) → first_length messages ≡ Some n → n ≤ waiting_bytes messages
first_within [] n h = cc
first_within (m ∷ later) n h = grind (arith, common_steps)
