-- Bytes taken from the front of messages.
use Rattle.std.proofs.Common.{◌≡◌, ◌<◌, ◌≤◌, ℕ, zero, suc, ◌-◌, ◌+◌, List, [], ◌∷◌, ◌++◌, length, take, drop, Bool, true, false, slice_index_or, slice_set, refl, ap, sym, ◌∙◌, append_assoc, length-append, arith, rules}
use Rattle.std.proofs.lemmas.Bool.{le-ltb, lt-ltb, ne_eqb}
use Rattle.std.proofs.lemmas.List.{append-nil, length-take, length-take-le, take_all}
use Rattle.socket_queues.specs.Queues.{has_rights}
use Rattle.socket_queues.specs.Taking.{Taken, is_first_with_rights, left_of, nothing_taken, plain_taken, rest_of, stream_taken, with_front}
use Rattle.socket_queues.specs.declared.message.Message.{Message}

-- where no bytes are wanted nothing is taken
pub none_wanted : (messages : List Message) → plain_taken 0 messages ≡ nothing_taken messages
unfolding plain_taken
none_wanted [] = refl
none_wanted (m ∷ later) = go (has_rights m) refl
  where
    go : (b : Bool) → has_rights m ≡ b → plain_taken 0 (m ∷ later) ≡ nothing_taken (m ∷ later)
    go true e = rw e refl
    go false e = rw e refl

nothing_more : (xs : List ℕ) (messages : List Message) → with_front xs (plain_taken 0 messages) ≡ record { bytes = xs; rights = []; left = messages }
nothing_more xs messages = rw (none_wanted messages, append-nil xs) refl

-- of no messages
pub no_messages : (n : ℕ) (xs : List ℕ) (messages : List Message) → length messages ≤ 0 → with_front xs (plain_taken 0 messages) ≡ with_front xs (plain_taken n messages)
unfolding plain_taken
no_messages n xs [] none = refl
no_messages n xs (m ∷ later) none = absurd (omega (arith, none))

-- of messages whose first has open files
pub rights_first : (n : ℕ) (xs : List ℕ) (messages : List Message) (m : Message) → 0 < length messages → m ≡ slice_index_or messages 0 m → true ≡ has_rights m
    → with_front xs (plain_taken 0 (slice_set messages 0 m)) ≡ with_front xs (plain_taken n messages)
unfolding plain_taken
rights_first n xs [] m some first rights = absurd (omega (arith, some))
rights_first n xs (k ∷ later) m some first rights = rw (first, none_wanted (k ∷ later), ← rw first at rights) refl

-- a message without open files has none
pub plain : (m : Message) → false ≡ has_rights m → m.rights ≡ []
plain m none = go m.rights refl
  where
    go : (rights : List ℕ) → m.rights ≡ rights → m.rights ≡ []
    go [] e = e
    go (r ∷ rs) e = let wrong = rw e at none in absurd (search rules)

not_none : (n : ℕ) → 0 < n → n ≡ 0 → ⊥
not_none n some none = omega (arith, some, none)

-- a part of the first message
pub part_taken : (n : ℕ) (m : Message) (later : List Message) → 0 < n → n < length m.bytes → false ≡ has_rights m
    → plain_taken n (m ∷ later) ≡ record { bytes = take n m.bytes; rights = []; left = rest_of n m ∷ later }
unfolding plain_taken
part_taken n m later some few none = rw (← none, ne_eqb n 0 (not_none n some), lt-ltb _ _ few) refl

-- the whole of it, and of those behind it
pub whole_taken : (n : ℕ) (m : Message) (later : List Message) → 0 < n → length m.bytes ≤ n → false ≡ has_rights m
    → plain_taken n (m ∷ later) ≡ with_front m.bytes (plain_taken (n - length m.bytes) later)
unfolding plain_taken
whole_taken n m later some few none = rw (← none, ne_eqb n 0 (not_none n some), le-ltb _ _ few) refl

same_rest : (n : ℕ) (m : Message) → false ≡ has_rights m → rest_of n m ≡ record m { bytes = drop n m.bytes }
same_rest n m none = rw (plain m none) refl

-- of messages of whose first a part is wanted
pub part_first : (n : ℕ) (xs ys : List ℕ) (messages : List Message) (m left : Message) → 0 < length messages → m ≡ slice_index_or messages 0 m → false ≡ has_rights m
    → 0 < n → n < length m.bytes → ys ≡ xs ++ take n m.bytes → left ≡ record m { bytes = drop n m.bytes }
    → with_front ys (plain_taken 0 (slice_set messages 0 left)) ≡ with_front xs (plain_taken n messages)
part_first n xs ys [] m left some first none wanted few bytes rest = absurd (omega (arith, some))
part_first n xs ys (k ∷ later) m left some first none wanted few bytes rest =
    nothing_more ys (left ∷ later) ∙ rw (part_taken n k later wanted (rw first at few) (rw first at none), same_rest n k (rw first at none), bytes, rest, first) refl

-- of messages of whose first all is wanted
pub whole_first : (n count : ℕ) (xs ys : List ℕ) (messages others : List Message) (m left : Message) → 0 < length messages → m ≡ slice_index_or messages 0 m → false ≡ has_rights m
    → 0 < n → count ≡ length m.bytes → count ≤ n → ys ≡ xs ++ take count m.bytes → others ≡ drop 1 (slice_set messages 0 left)
    → with_front ys (plain_taken (n - count) others) ≡ with_front xs (plain_taken n messages)
whole_first n count xs ys [] others m left some first none wanted all few bytes rest = absurd (omega (arith, some))
whole_first n count xs ys (k ∷ later) others m left some first none wanted all few bytes rest =
    rw (whole_taken n k later wanted (rw (all, first) at few) (rw first at none), rest, bytes, all, take_all (length m.bytes) m.bytes (omega arith), first, append_assoc) refl

-- there is room for a part of the first message, and for all of it
pub part_fits : (n moved size : ℕ) (messages : List Message) (m : Message) → 0 < length messages → m ≡ slice_index_or messages 0 m → false ≡ has_rights m
    → 0 < n → n < length m.bytes → moved + length (plain_taken n messages).bytes ≡ size → moved + n ≤ size
part_fits n moved size [] m some first none wanted few room = absurd (omega (arith, some))
part_fits n moved size (k ∷ later) m some first none wanted few room =
    let here : n < length k.bytes = rw first at few in
    let bytes = ap (λ (t : Taken). length t.bytes) (part_taken n k later wanted here (rw first at none)) in
    let count = length-take-le n k.bytes (omega (arith, here)) in
    omega (arith, bytes, count, room)

pub whole_fits : (n moved size : ℕ) (messages : List Message) (m : Message) → 0 < length messages → m ≡ slice_index_or messages 0 m → false ≡ has_rights m
    → 0 < n → length m.bytes ≤ n → moved + length (plain_taken n messages).bytes ≡ size → moved + length m.bytes ≤ size
whole_fits n moved size [] m some first none wanted few room = absurd (omega (arith, some))
whole_fits n moved size (k ∷ later) m some first none wanted few room =
    let same : m ≡ k = first in
    let bytes = ap (λ (t : Taken). length t.bytes) (whole_taken n k later wanted (rw first at few) (rw first at none)) in
    let count = length-append k.bytes (plain_taken (n - length k.bytes) later).bytes in
    rw same (omega (arith, bytes, count, room))

-- as many bytes are to come as there is room for
pub room_left : (k : ℕ) (xs : List ℕ) (t u : Taken) → with_front (take k xs) t ≡ u → k ≤ length xs → length xs ≡ length u.bytes → k + length t.bytes ≡ length xs
room_left k xs t u same within size =
    let all = ap (λ (v : Taken). length v.bytes) same in
    let parts = length-append (take k xs) t.bytes in
    let front = length-take-le k xs within in
    omega (arith, all, parts, front, size)

-- where no more are wanted all have come
pub all_moved : (k n : ℕ) (xs : List ℕ) (messages : List Message) (u : Taken) → n ≡ 0 → with_front (take k xs) (plain_taken n messages) ≡ u → k ≤ length xs → length xs ≡ length u.bytes → xs ≡ u.bytes
all_moved k n xs messages u none same within size =
    let told = sym (nothing_more (take k xs) messages) ∙ rw none at same in
    let bytes = ap (λ (v : Taken). v.bytes) told in
    let count = ap (λ (ys : List ℕ). length ys) bytes in
    let front = length-take-le k xs within in
    sym (take_all k xs (omega (arith, count, front, size))) ∙ bytes

pub others_left : (n : ℕ) (xs : List ℕ) (messages : List Message) (u : Taken) → n ≡ 0 → with_front xs (plain_taken n messages) ≡ u → messages ≡ u.left
others_left n xs messages u none same = ap (λ (v : Taken). v.left) (sym (nothing_more xs messages) ∙ rw none at same)

-- the first message is first
pub first_with : (messages : List Message) (m : Message) → 0 < length messages → m ≡ slice_index_or messages 0 m → has_rights m ≡ is_first_with_rights messages
first_with [] m some first = absurd (omega (arith, some))
first_with (k ∷ later) m some first = ap has_rights first

pub none_with : (messages : List Message) → length messages ≤ 0 → false ≡ is_first_with_rights messages
none_with [] none = refl
none_with (k ∷ later) none = absurd (omega (arith, none))

-- where no bytes are wanted, a stream gives none
pub none_streamed : (messages : List Message) → stream_taken 0 messages ≡ nothing_taken messages
unfolding stream_taken
none_streamed [] = refl
none_streamed (m ∷ later) = go (has_rights m) refl
  where
    go : (b : Bool) → has_rights m ≡ b → stream_taken 0 (m ∷ later) ≡ nothing_taken (m ∷ later)
    go true e = rw e (none_wanted (m ∷ later))
    go false e = rw e (none_wanted (m ∷ later))

-- of messages whose first has no open files
pub plainly_streamed : (n : ℕ) (messages : List Message) → false ≡ is_first_with_rights messages → stream_taken n messages ≡ plain_taken n messages
unfolding stream_taken plain_taken
plainly_streamed n [] none = refl
plainly_streamed n (m ∷ later) none = rw (← none) refl

-- and whose first has some
pub rights_streamed : (n : ℕ) (messages : List Message) (m : Message) → 0 < length messages → m ≡ slice_index_or messages 0 m → is_first_with_rights messages ≡ true → 0 < n
    → stream_taken n messages ≡ record { bytes = take n m.bytes; rights = m.rights; left = left_of n m (drop 1 messages) }
unfolding stream_taken
rights_streamed n [] m some first rights wanted = absurd (omega (arith, some))
rights_streamed n (k ∷ later) m some first rights wanted = rw (rights, lt-ltb _ _ wanted, first) refl

pub left_part : (n : ℕ) (messages : List Message) (m left : Message) → 0 < length messages → n < length m.bytes → left ≡ rest_of n m
    → slice_set messages 0 left ≡ left_of n m (drop 1 messages)
left_part n [] m left some few rest = absurd (omega (arith, some))
left_part n (k ∷ later) m left some few rest = rw (lt-ltb _ _ few, rest) refl

pub left_whole : (n : ℕ) (messages others : List Message) (m left : Message) → 0 < length messages → length m.bytes ≤ n → others ≡ drop 1 (slice_set messages 0 left)
    → others ≡ left_of n m (drop 1 messages)
left_whole n [] others m left some all rest = absurd (omega (arith, some))
left_whole n (k ∷ later) others m left some all rest = rw (le-ltb _ _ all) rest

-- a front is as long as there are bytes
pub same_front : (n : ℕ) (xs : List ℕ) → take (length (take n xs)) xs ≡ take n xs
same_front zero xs = refl
same_front (suc n) [] = refl
same_front (suc n) (x ∷ xs) = ap (λ (ys : List ℕ). x ∷ ys) (same_front n xs)

pub front_within : (n : ℕ) (xs : List ℕ) → length (take n xs) ≤ length xs
front_within n xs = simp length-take (omega arith)

pub no_items : (xs : List ℕ) → length xs ≡ 0 → xs ≡ []
no_items [] none = refl
no_items (x ∷ xs) none = absurd (omega (arith, none))

pub taken_front : (n size : ℕ) (xs ys : List ℕ) (t : Taken) → size ≡ length t.bytes → t.bytes ≡ take n xs → ys ≡ take size xs → ys ≡ t.bytes
taken_front n size xs ys t told bytes front = front ∙ rw (told, bytes) (same_front n xs)

pub front_size : (n size : ℕ) (xs : List ℕ) (t : Taken) → size ≡ length t.bytes → t.bytes ≡ take n xs → n < length xs → size ≡ n
front_size n size xs t told bytes few =
    let count = ap (λ (ys : List ℕ). length ys) bytes in
    let front = length-take-le n xs (omega (arith, few)) in
    omega (arith, told, count, front)

-- where no bytes are wanted, of a stream
pub none_bytes : (n : ℕ) (into : List ℕ) (messages : List Message) → n ≡ 0 → length into ≡ length (stream_taken n messages).bytes → into ≡ (stream_taken n messages).bytes
none_bytes n into messages none told =
    let taken : stream_taken n messages ≡ nothing_taken messages = rw none (none_streamed messages) in
    let count = ap (λ (t : Taken). length t.bytes) taken in
    no_items into (omega (arith, told, count)) ∙ sym (ap (λ (t : Taken). t.bytes) taken)

pub none_rights : (n : ℕ) (rights : List ℕ) (messages : List Message) → n ≡ 0 → rights ≡ rights ++ (stream_taken n messages).rights
none_rights n rights messages none = rw (none, none_streamed messages) (sym (append-nil rights))

pub none_left : (n : ℕ) (messages : List Message) → n ≡ 0 → messages ≡ (stream_taken n messages).left
none_left n messages none = rw none (sym (ap (λ (t : Taken). t.left) (none_streamed messages)))
