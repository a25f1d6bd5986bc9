-- What is left of a list from an index on.
use Rattle.std.proofs.Common.{◌≡◌, ℕ, zero, suc, ◌+◌, ◌<◌, List, [], ◌∷◌, length, drop, slice_get, Some, None, refl, arith}
use Rattle.socket_queues.specs.declared.message.Message.{Message}

none_left : {A : Type 0} (xs : List A) (i : ℕ) → slice_get xs i ≡ None → drop i xs ≡ []
none_left [] zero h = refl
none_left [] (suc i) h = refl
none_left (x ∷ xs) zero h = cc
none_left (x ∷ xs) (suc i) h = none_left xs i h

some_left : {A : Type 0} (xs : List A) (i : ℕ) (x : A) → slice_get xs i ≡ Some x → drop i xs ≡ x ∷ drop (i + 1) xs
some_left [] i x h = cc
some_left (y ∷ xs) zero x h = cc
some_left (y ∷ xs) (suc i) x h = let next : suc i + 1 ≡ suc (i + 1) = omega arith in rw next (some_left xs i x h)

below : {A : Type 0} (xs : List A) (i : ℕ) (x : A) → slice_get xs i ≡ Some x → i < length xs
below [] i x h = absurd (cc)
below (y ∷ xs) zero x h = omega arith
below (y ∷ xs) (suc i) x h = let b = below xs i x h in omega (arith, b)

pub no_messages_left : (queue : List Message) (i : ℕ) → slice_get queue i ≡ None → drop i queue ≡ []
no_messages_left queue i h = none_left queue i h

pub message_left : (queue : List Message) (i : ℕ) (m : Message) → slice_get queue i ≡ Some m → drop i queue ≡ m ∷ drop (i + 1) queue
message_left queue i m h = some_left queue i m h

pub message_below : (queue : List Message) (i : ℕ) (m : Message) → slice_get queue i ≡ Some m → i < length queue
message_below queue i m h = below queue i m h

pub none_waiting_left : (waiting : List ℕ) (i : ℕ) → slice_get waiting i ≡ None → drop i waiting ≡ []
none_waiting_left waiting i h = none_left waiting i h

pub waiting_left_on : (waiting : List ℕ) (i n : ℕ) → slice_get waiting i ≡ Some n → drop i waiting ≡ n ∷ drop (i + 1) waiting
waiting_left_on waiting i n h = some_left waiting i n h

pub waiting_below : (waiting : List ℕ) (i n : ℕ) → slice_get waiting i ≡ Some n → i < length waiting
waiting_below waiting i n h = below waiting i n h
