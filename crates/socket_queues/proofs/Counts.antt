-- How many bytes are taken, told beforehand.
use Rattle.std.proofs.Common.{◌≡◌, ◌<◌, ◌≤◌, ℕ, zero, suc, nat_lt, ◌-◌, ◌+◌, List, [], ◌∷◌, length, drop, min, Bool, true, false, slice_index_or, refl, ap, sym, ◌∙◌, length-append, arith}
use Rattle.std.proofs.lemmas.List.{drop_all, drop_more, length-take, length-take-le}
use Rattle.std.proofs.lemmas.Bool.{ltb-false, ltb-true}
use Rattle.socket_queues.specs.Queues.{has_rights}
use Rattle.socket_queues.specs.Taking.{Taken, is_first_with_rights, plain_taken, stream_taken}
use Rattle.socket_queues.specs.declared.message.Message.{Message}
use Rattle.socket_queues.proofs.Fronts.{none_streamed, none_wanted, part_taken, plainly_streamed, rights_streamed, whole_taken}

at_front : (i : ℕ) (messages : List Message) (m : Message) → i < length messages → m ≡ slice_index_or messages i m → drop i messages ≡ m ∷ drop (i + 1) messages
at_front i messages m here item = drop_more messages i m here ∙ ap (λ (k : Message). k ∷ drop (i + 1) messages) (sym item)

none_counted : (n : ℕ) → length (plain_taken n []).bytes ≡ 0
unfolding plain_taken
none_counted n = refl

-- of no messages
pub count_none : (n i : ℕ) (messages : List Message) → length messages ≤ i → length (plain_taken n (drop i messages)).bytes ≡ 0
count_none n i messages none = rw (drop_all i messages none) (none_counted n)

rights_counted : (n : ℕ) (m : Message) (later : List Message) → true ≡ has_rights m → length (plain_taken n (m ∷ later)).bytes ≡ 0
unfolding plain_taken
rights_counted n m later rights = rw (← rights) refl

-- of messages whose first has open files
pub count_rights : (n i : ℕ) (messages : List Message) (m : Message) → i < length messages → m ≡ slice_index_or messages i m → true ≡ has_rights m
    → length (plain_taken n (drop i messages)).bytes ≡ 0
count_rights n i messages m here item rights = rw (at_front i messages m here item) (rights_counted n m (drop (i + 1) messages) rights)

enough_counted : (n : ℕ) (m : Message) (later : List Message) → false ≡ has_rights m → n ≤ length m.bytes → length (plain_taken n (m ∷ later)).bytes ≡ n
enough_counted zero m later none enough = ap (λ (t : Taken). length t.bytes) (none_wanted (m ∷ later))
enough_counted (suc n) m later none enough = go (nat_lt (suc n) (length m.bytes)) refl
  where
    go : (b : Bool) → nat_lt (suc n) (length m.bytes) ≡ b → length (plain_taken (suc n) (m ∷ later)).bytes ≡ suc n
    go true e =
        let few = ltb-true (suc n) (length m.bytes) e in
        ap (λ (t : Taken). length t.bytes) (part_taken (suc n) m later (omega arith) few none) ∙ length-take-le (suc n) m.bytes enough
    go false e =
        let all = ltb-false (suc n) (length m.bytes) e in
        let none_behind : suc n - length m.bytes ≡ 0 = omega (arith, enough, all) in
        let bytes = ap (λ (t : Taken). length t.bytes) (whole_taken (suc n) m later (omega arith) all none) in
        let parts = length-append m.bytes (plain_taken (suc n - length m.bytes) later).bytes in
        let behind = ap (λ (t : Taken). length t.bytes) (none_wanted later) in
        let same : length (plain_taken (suc n - length m.bytes) later).bytes ≡ 0 = rw none_behind behind in
        omega (arith, bytes, parts, same, enough, all)

-- of messages whose first has as many as are wanted
pub count_enough : (n i : ℕ) (messages : List Message) (m : Message) → i < length messages → m ≡ slice_index_or messages i m → false ≡ has_rights m
    → n ≤ length m.bytes → length (plain_taken n (drop i messages)).bytes ≡ n
count_enough n i messages m here item none enough = rw (at_front i messages m here item) (enough_counted n m (drop (i + 1) messages) none enough)

more_counted : (n count : ℕ) (m : Message) (later : List Message) → false ≡ has_rights m → count ≡ length m.bytes → count < n
    → length (plain_taken n (m ∷ later)).bytes ≡ count + length (plain_taken (n - count) later).bytes
more_counted n count m later none all few =
    rw all (ap (λ (t : Taken). length t.bytes) (whole_taken n m later (omega (arith, few)) (omega (arith, all, few)) none) ∙ length-append m.bytes (plain_taken (n - length m.bytes) later).bytes)

-- and of those whose first has fewer
pub count_more : (n count i : ℕ) (messages : List Message) (m : Message) → i < length messages → m ≡ slice_index_or messages i m → false ≡ has_rights m
    → count ≡ length m.bytes → count < n
    → length (plain_taken n (drop i messages)).bytes ≡ count + length (plain_taken (n - count) (drop (i + 1) messages)).bytes
count_more n count i messages m here item none all few = rw (at_front i messages m here item) (more_counted n count m (drop (i + 1) messages) none all few)

-- of a stream
pub count_streamed_rights : (n : ℕ) (messages : List Message) (m : Message) → 0 < length messages → m ≡ slice_index_or messages 0 m → is_first_with_rights messages ≡ true
    → min n (length m.bytes) ≡ length (stream_taken n messages).bytes
count_streamed_rights zero messages m some item rights =
    let none = ap (λ (t : Taken). length t.bytes) (none_streamed messages) in
    omega (arith, none)
count_streamed_rights (suc n) messages m some item rights =
    sym (ap (λ (t : Taken). length t.bytes) (rights_streamed (suc n) messages m some item rights (omega arith)) ∙ length-take (suc n) m.bytes)

pub count_streamed_plainly : (n : ℕ) (messages : List Message) → false ≡ is_first_with_rights messages
    → length (plain_taken n messages).bytes ≡ length (stream_taken n messages).bytes
count_streamed_plainly n messages plain = ap (λ (t : Taken). length t.bytes) (sym (plainly_streamed n messages plain))

pub count_streamed_none : (n : ℕ) (messages : List Message) → length messages ≤ 0 → 0 ≡ length (stream_taken n messages).bytes
unfolding stream_taken
count_streamed_none n [] none = refl
count_streamed_none n (m ∷ later) none = absurd (omega (arith, none))
