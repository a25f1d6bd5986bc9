-- The control messages that are told, where there is room for all.
use Rattle.std.proofs.Common.{◌≡◌, ℕ, ◌+◌, ◌-◌, ◌*◌, ◌<◌, ◌≤◌, ◌^◌, Bool, true, false, ◌&&◌, ◌||◌, min, nat_lt, List, [], ◌∷◌, ◌++◌, length, Option, Some, None, is_some, refl, sym, ap, ◌∙◌, arith, length-append}
use Rattle.std.proofs.lemmas.Bool.{le-ltb}
use Rattle.std.proofs.lemmas.List.{append-nil, take_all}
use Rattle.std.proofs.lemmas.List.Sums.{sum_by-cons}
use Rattle.byteorder.specs.Numbers.{length-bytes_low_first}
use Rattle.kernel_values.specs.declared.identity.Credentials.{Credentials}
use Rattle.message_layouts.specs.Controls.{AllFit, Control, control_bytes, control_size, controls_of, padded, spelled, spelled_size}
use Rattle.message_layouts.proofs.ReadBack.{read_back}
use Rattle.control_repack.specs.Laws.{AmpleRoomTellsAll}
use Rattle.control_repack.specs.Outgoing.{all_controls, credentials_bytes, credentials_control, rights_bytes, rights_control, rights_message, told_count, words}

-- four bytes a word
pub words_length : (xs : List ℕ) → length (words xs) ≡ 4 * length xs
words_length [] = refl
words_length (x ∷ xs) = simp (length-append, length-bytes_low_first 0 4 x) (omega (arith, words_length xs))

-- a message with descriptors has no gap
message_is : (right : ℕ) (rights : List ℕ) → rights_message (right ∷ rights) ≡ control_bytes 4 (record { level = 1; kind = 1; content = words (right ∷ rights) })
message_is right rights =
    let count = words_length (right ∷ rights) in
    let whole : 12 + 4 * length (right ∷ rights) ≡ 12 + length (words (right ∷ rights)) = omega (arith, count) in
    let even : padded 4 (12 + length (words (right ∷ rights))) - (12 + length (words (right ∷ rights))) ≡ 0 = omega (arith, count) in
    rw (whole, even, append-nil (words (right ∷ rights))) refl

one_size : (c : Control) → spelled_size 4 (c ∷ []) ≡ control_size 4 c
one_size c = omega arith

rights_size : (right : ℕ) (rights : List ℕ) → spelled_size 4 (rights_control (right ∷ rights)) ≡ 12 + 4 * length (right ∷ rights)
rights_size right rights = let count = words_length (right ∷ rights) in omega (arith, count)

-- all descriptors are told
all_rights : (rights : List ℕ) (room : ℕ) → spelled_size 4 (rights_control rights) ≤ room
    → (rights_bytes rights room ≡ spelled 4 (rights_control rights)) × (nat_lt (told_count (length rights) room) (length rights) ≡ false)
unfolding spelled
all_rights [] room enough = (ap rights_message (take_all (told_count 0 room) [] (omega arith)), le-ltb (told_count 0 room) 0 (omega arith))
all_rights (right ∷ rights) room enough =
    let size = rights_size right rights in
    let all : told_count (length (right ∷ rights)) room ≡ length (right ∷ rights) = omega (arith, size, enough) in
    let told : rights_bytes (right ∷ rights) room ≡ rights_message (right ∷ rights) = ap rights_message (take_all (told_count (length (right ∷ rights)) room) (right ∷ rights) (omega (arith, all))) in
    (told ∙ message_is right rights ∙ sym (append-nil _), le-ltb (told_count (length (right ∷ rights)) room) (length (right ∷ rights)) (omega (arith, all)))

-- credentials are told whole
whole_credentials : (c : Credentials) (room : ℕ) → 24 ≤ room → credentials_bytes (Some c) room ≡ control_bytes 4 (record { level = 1; kind = 2; content = words (c.pid ∷ c.uid ∷ c.gid ∷ []) })
whole_credentials c room enough =
    let some : nat_lt room 12 ≡ false = le-ltb room 12 (omega (arith, enough)) in
    let length_told : min room 24 ≡ 24 = omega (arith, enough) in
    rw (some, length_told) (take_all room (words (24 ∷ 1 ∷ 2 ∷ c.pid ∷ c.uid ∷ c.gid ∷ [])) (omega (arith, enough)))

or_false : (b : Bool) → (b || false) ≡ b
or_false true = refl
or_false false = refl

-- all messages fit
rights_fit : (rights : List ℕ) (room : ℕ) → room < 2 ^ 32 → spelled_size 4 (rights_control rights) ≤ room → AllFit 4 (rights_control rights)
rights_fit [] room small enough = tt
rights_fit (right ∷ rights) room small enough =
    let size = rights_size right rights in
    let count = words_length (right ∷ rights) in
    ((omega (arith, size, count, small, enough), omega arith, omega arith), tt)

record Told (credentials : Option Credentials) (rights : List ℕ) (dropped : Bool) (room : ℕ) : Type 0 where
  pub bytes : credentials_bytes credentials room ++ rights_bytes rights (room - length (credentials_bytes credentials room)) ≡ spelled 4 (credentials_control credentials ++ rights_control rights)
  pub fit : AllFit 4 (credentials_control credentials ++ rights_control rights)
  pub cut : (is_some credentials && nat_lt room 24 || (dropped || nat_lt (told_count (length rights) (room - length (credentials_bytes credentials room))) (length rights))) ≡ dropped

all_told : (credentials : Option Credentials) (rights : List ℕ) (dropped : Bool) (room : ℕ) → room < 2 ^ 32
    → spelled_size 4 (credentials_control credentials ++ rights_control rights) ≤ room → Told credentials rights dropped room
unfolding spelled
all_told None rights dropped room small enough =
    let left : room - length {A = ℕ} [] ≡ room = omega arith in
    let r = all_rights rights room enough in
    record {
      bytes = rw left r.0;
      fit = rights_fit rights room small enough;
      cut = rw (left, r.1) (or_false dropped);
    }
all_told (Some c) rights dropped room small enough =
    let first : Control = record { level = 1; kind = 2; content = words (c.pid ∷ c.uid ∷ c.gid ∷ []) } in
    let both : spelled_size 4 (first ∷ rights_control rights) ≡ 24 + spelled_size 4 (rights_control rights) = sum_by-cons (control_size 4) first (rights_control rights) in
    let some : 24 ≤ room = omega (arith, both, enough) in
    let whole = whole_credentials c room some in
    let rest : spelled_size 4 (rights_control rights) ≤ room - 24 = omega (arith, both, enough) in
    let r = all_rights rights (room - 24) rest in
    let long : nat_lt room 24 ≡ false = le-ltb room 24 some in
    record {
      bytes = rw (whole, r.0) refl;
      fit = ((omega arith, omega arith, omega arith), rights_fit rights (room - 24) (omega (arith, small)) rest);
      cut = rw (whole, long, r.1) (or_false dropped);
    }

pub ample : AmpleRoomTellsAll
ample r room small enough =
    let t = all_told r.credentials r.rights r.dropped room small enough in
    record { told = ap (controls_of 4) t.bytes ∙ read_back 4 (all_controls r) (omega arith) t.fit; cut = t.cut }
