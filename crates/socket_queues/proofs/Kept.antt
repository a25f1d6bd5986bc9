-- What receives of a stream keep.
use Rattle.std.proofs.Common.{◌≡◌, ◌<◌, ◌≤◌, ℕ, ◌-◌, ◌+◌, List, [], ◌∷◌, ◌++◌, length, take, drop, Bool, true, false, ◌&&◌, ◌||◌, ◌==◌, nat_lt, refl, ap, sym, ◌∙◌, append_assoc, length-append, arith, rules}
use Rattle.std.specs.List.{All}
use Rattle.std.proofs.lemmas.Bool.{lt-ltb, ltb-false, ne_eqb}
use Rattle.std.proofs.lemmas.List.{length-take, take-append-drop, take_all}
use Rattle.std.proofs.lemmas.List.Concat.{length-flat_map}
use Rattle.std.proofs.lemmas.List.Elements.{All-head, All-tail}
use Rattle.socket_queues.specs.Queues.{bytes_in, has_rights, rights_in, waiting_bytes}
use Rattle.socket_queues.specs.Taking.{plain_taken, rest_of, left_of, stream_taken}
use Rattle.socket_queues.specs.Laws.{Leaves, received}
use Rattle.socket_queues.specs.declared.message.Message.{Message}
use Rattle.socket_queues.proofs.Fronts.{plain}

part_kept : (n : ℕ) (xs ys : List ℕ) → take n xs ++ (drop n xs ++ ys) ≡ xs ++ ys
part_kept n xs ys = sym (append_assoc (take n xs) (drop n xs) ys) ∙ ap (λ (zs : List ℕ). zs ++ ys) (take-append-drop n xs)

-- bytes that are taken up to the first message with open files, and those that wait still
pub plain_bytes : (n : ℕ) (messages : List Message) → (plain_taken n messages).bytes ++ bytes_in (plain_taken n messages).left ≡ bytes_in messages
unfolding plain_taken
plain_bytes n [] = refl
plain_bytes n (m ∷ later) = go (has_rights m || (n == 0)) refl (nat_lt n (length m.bytes)) refl (plain_bytes (n - length m.bytes) later)
  where
    go : (b : Bool) → (has_rights m || (n == 0)) ≡ b → (c : Bool) → nat_lt n (length m.bytes) ≡ c → (plain_taken (n - length m.bytes) later).bytes ++ bytes_in (plain_taken (n - length m.bytes) later).left ≡ bytes_in later
        → (plain_taken n (m ∷ later)).bytes ++ bytes_in (plain_taken n (m ∷ later)).left ≡ bytes_in (m ∷ later)
    go true e c f more = rw e refl
    go false e true f more = rw (e, f) (part_kept n m.bytes (bytes_in later))
    go false e false f more = rw (e, f) (append_assoc m.bytes _ _ ∙ ap (λ (ys : List ℕ). m.bytes ++ ys) more)

-- none of the open files comes with them
pub plain_rights : (n : ℕ) (messages : List Message) → (plain_taken n messages).rights ≡ []
unfolding plain_taken
plain_rights n [] = refl
plain_rights n (m ∷ later) = go (has_rights m || (n == 0)) refl (nat_lt n (length m.bytes)) refl (plain_rights (n - length m.bytes) later)
  where
    go : (b : Bool) → (has_rights m || (n == 0)) ≡ b → (c : Bool) → nat_lt n (length m.bytes) ≡ c → (plain_taken (n - length m.bytes) later).rights ≡ [] → (plain_taken n (m ∷ later)).rights ≡ []
    go true e c f more = rw e refl
    go false e true f more = rw (e, f) refl
    go false e false f more = rw (e, f) more

no_rights_first : (n : ℕ) (m : Message) → (has_rights m || (n == 0)) ≡ false → m.rights ≡ []
no_rights_first n m none = go (has_rights m) refl
  where
    go : (b : Bool) → has_rights m ≡ b → m.rights ≡ []
    go true e = let wrong = rw e at none in absurd (search rules)
    go false e = plain m (sym e)

pub plain_waits : (n : ℕ) (messages : List Message) → rights_in (plain_taken n messages).left ≡ rights_in messages
unfolding plain_taken
plain_waits n [] = refl
plain_waits n (m ∷ later) = go (has_rights m || (n == 0)) refl (nat_lt n (length m.bytes)) refl (plain_waits (n - length m.bytes) later)
  where
    go : (b : Bool) → (has_rights m || (n == 0)) ≡ b → (c : Bool) → nat_lt n (length m.bytes) ≡ c → rights_in (plain_taken (n - length m.bytes) later).left ≡ rights_in later → rights_in (plain_taken n (m ∷ later)).left ≡ rights_in (m ∷ later)
    go true e c f more = rw e refl
    go false e true f more = rw (e, f, no_rights_first n m e) refl
    go false e false f more = rw (e, f, no_rights_first n m e) more

pub plain_fewer : (n : ℕ) (messages : List Message) → length (plain_taken n messages).left ≤ length messages
unfolding plain_taken
plain_fewer n [] = omega arith
plain_fewer n (m ∷ later) = go (has_rights m || (n == 0)) refl (nat_lt n (length m.bytes)) refl (plain_fewer (n - length m.bytes) later)
  where
    go : (b : Bool) → (has_rights m || (n == 0)) ≡ b → (c : Bool) → nat_lt n (length m.bytes) ≡ c → length (plain_taken (n - length m.bytes) later).left ≤ length later → length (plain_taken n (m ∷ later)).left ≤ length (m ∷ later)
    go true e c f more = rw e (omega arith)
    go false e true f more = rw (e, f) (omega arith)
    go false e false f more = rw (e, f) (omega (arith, more))

-- of a first message with open files
left_bytes : (n : ℕ) (m : Message) (later : List Message) → take n m.bytes ++ bytes_in (left_of n m later) ≡ bytes_in (m ∷ later)
left_bytes n m later = go (nat_lt n (length m.bytes)) refl
  where
    go : (b : Bool) → nat_lt n (length m.bytes) ≡ b → take n m.bytes ++ bytes_in (left_of n m later) ≡ bytes_in (m ∷ later)
    go true e = rw e (part_kept n m.bytes (bytes_in later))
    go false e = rw (e, take_all n m.bytes (ltb-false _ _ e)) refl

left_rights : (n : ℕ) (m : Message) (later : List Message) → m.rights ++ rights_in (left_of n m later) ≡ rights_in (m ∷ later)
left_rights n m later = go (nat_lt n (length m.bytes)) refl
  where
    go : (b : Bool) → nat_lt n (length m.bytes) ≡ b → m.rights ++ rights_in (left_of n m later) ≡ rights_in (m ∷ later)
    go true e = rw e refl
    go false e = rw e refl

left_fewer : (n : ℕ) (m : Message) (later : List Message) → length (left_of n m later) ≤ length (m ∷ later)
left_fewer n m later = go (nat_lt n (length m.bytes)) refl
  where
    go : (b : Bool) → nat_lt n (length m.bytes) ≡ b → length (left_of n m later) ≤ length (m ∷ later)
    go true e = rw e (omega arith)
    go false e = rw e (omega arith)

-- a stream's receive
pub stream_bytes : (n : ℕ) (messages : List Message) → (stream_taken n messages).bytes ++ bytes_in (stream_taken n messages).left ≡ bytes_in messages
unfolding stream_taken
stream_bytes n [] = refl
stream_bytes n (m ∷ later) = go (has_rights m && nat_lt 0 n) refl
  where
    go : (b : Bool) → (has_rights m && nat_lt 0 n) ≡ b → (stream_taken n (m ∷ later)).bytes ++ bytes_in (stream_taken n (m ∷ later)).left ≡ bytes_in (m ∷ later)
    go true e = rw e (left_bytes n m later)
    go false e = rw e (plain_bytes n (m ∷ later))

pub stream_rights : (n : ℕ) (messages : List Message) → (stream_taken n messages).rights ++ rights_in (stream_taken n messages).left ≡ rights_in messages
unfolding stream_taken
stream_rights n [] = refl
stream_rights n (m ∷ later) = go (has_rights m && nat_lt 0 n) refl
  where
    go : (b : Bool) → (has_rights m && nat_lt 0 n) ≡ b → (stream_taken n (m ∷ later)).rights ++ rights_in (stream_taken n (m ∷ later)).left ≡ rights_in (m ∷ later)
    go true e = rw e (left_rights n m later)
    go false e = rw (e, plain_rights n (m ∷ later)) (plain_waits n (m ∷ later))

pub stream_fewer : (n : ℕ) (messages : List Message) → length (stream_taken n messages).left ≤ length messages
unfolding stream_taken
stream_fewer n [] = omega arith
stream_fewer n (m ∷ later) = go (has_rights m && nat_lt 0 n) refl
  where
    go : (b : Bool) → (has_rights m && nat_lt 0 n) ≡ b → length (stream_taken n (m ∷ later)).left ≤ length (m ∷ later)
    go true e = rw e (left_fewer n m later)
    go false e = rw e (plain_fewer n (m ∷ later))

-- how many bytes are taken and wait still
pub stream_count : (n : ℕ) (messages : List Message) → length (stream_taken n messages).bytes + waiting_bytes (stream_taken n messages).left ≡ waiting_bytes messages
stream_count n messages =
    let all = ap (λ (xs : List ℕ). length xs) (stream_bytes n messages) in
    let parts = length-append (stream_taken n messages).bytes (bytes_in (stream_taken n messages).left) in
    let before = length-flat_map (λ (m : Message). m.bytes) messages in
    let after = length-flat_map (λ (m : Message). m.bytes) (stream_taken n messages).left in
    omega (arith, all, parts, before, after)

-- receives one after another
pub bytes_come_once : (wanted : List ℕ) (messages : List Message) → (received wanted messages).bytes ++ bytes_in (received wanted messages).left ≡ bytes_in messages
unfolding received
bytes_come_once [] messages = refl
bytes_come_once (n ∷ ns) messages =
    append_assoc (stream_taken n messages).bytes _ _
    ∙ ap (λ (xs : List ℕ). (stream_taken n messages).bytes ++ xs) (bytes_come_once ns (stream_taken n messages).left)
    ∙ stream_bytes n messages

pub rights_come_once : (wanted : List ℕ) (messages : List Message) → (received wanted messages).rights ++ rights_in (received wanted messages).left ≡ rights_in messages
unfolding received
rights_come_once [] messages = refl
rights_come_once (n ∷ ns) messages =
    append_assoc (stream_taken n messages).rights _ _
    ∙ ap (λ (xs : List ℕ). (stream_taken n messages).rights ++ xs) (rights_come_once ns (stream_taken n messages).left)
    ∙ stream_rights n messages

some_taken : (n : ℕ) (xs : List ℕ) → 0 < n → 0 < length xs → 0 < length (take n xs)
some_taken n xs wanted some = simp length-take (omega (arith, wanted, some))

plain_come : (n : ℕ) (m : Message) (later : List Message) → 0 < n → 0 < length m.bytes → has_rights m ≡ false → 0 < length (plain_taken n (m ∷ later)).bytes
unfolding plain_taken
plain_come n m later wanted some none = go (nat_lt n (length m.bytes)) refl
  where
    go : (c : Bool) → nat_lt n (length m.bytes) ≡ c → 0 < length (plain_taken n (m ∷ later)).bytes
    go true f = rw (none, ne_eqb n 0 (λ zero. omega (arith, zero, wanted)), f) (some_taken n m.bytes wanted some)
    go false f =
        let parts = length-append m.bytes (plain_taken (n - length m.bytes) later).bytes in
        rw (none, ne_eqb n 0 (λ zero. omega (arith, zero, wanted)), f) (omega (arith, parts, some))

pub wanted_bytes_come : (n : ℕ) (m : Message) (later : List Message) → 0 < n → 0 < length m.bytes → 0 < length (stream_taken n (m ∷ later)).bytes
unfolding stream_taken
wanted_bytes_come n m later wanted some = go (has_rights m) refl
  where
    go : (b : Bool) → has_rights m ≡ b → 0 < length (stream_taken n (m ∷ later)).bytes
    go true e = rw (e, lt-ltb _ _ wanted) (some_taken n m.bytes wanted some)
    go false e = rw e (plain_come n m later wanted some e)

-- messages with open files wait on behind others
plain_stops : (n : ℕ) (before : List Message) (m : Message) (later : List Message) → All (λ (k : Message). has_rights k ≡ false) before → has_rights m ≡ true
    → Leaves (plain_taken n (before ++ m ∷ later)) (m ∷ later)
unfolding plain_taken
plain_stops n [] m later none some = rw some (record { front = []; left = refl; rights = refl })
plain_stops n (k ∷ before) m later none some =
    go (n == 0) refl (nat_lt n (length k.bytes)) refl (plain_stops (n - length k.bytes) before m later (All-tail (λ (k : Message). has_rights k ≡ false) k before none) some)
  where
    first : has_rights k ≡ false
    first = All-head (λ (k : Message). has_rights k ≡ false) k before none

    go : (b : Bool) → (n == 0) ≡ b → (c : Bool) → nat_lt n (length k.bytes) ≡ c → Leaves (plain_taken (n - length k.bytes) (before ++ m ∷ later)) (m ∷ later)
        → Leaves (plain_taken n (k ∷ before ++ m ∷ later)) (m ∷ later)
    go true e c f more = rw (first, e) (record { front = k ∷ before; left = refl; rights = refl })
    go false e true f more = rw (first, e, f) (record { front = rest_of n k ∷ before; left = refl; rights = refl })
    go false e false f more = rw (first, e, f) (record { front = more.front; left = more.left; rights = more.rights })

pub stream_stops : (n : ℕ) (first : Message) (between : List Message) (m : Message) (later : List Message) → All (λ (k : Message). has_rights k ≡ false) (first ∷ between) → has_rights m ≡ true
    → Leaves (stream_taken n (first ∷ between ++ m ∷ later)) (m ∷ later)
unfolding stream_taken
stream_stops n first between m later none some = rw (All-head (λ (k : Message). has_rights k ≡ false) first between none) (plain_stops n (first ∷ between) m later none some)
