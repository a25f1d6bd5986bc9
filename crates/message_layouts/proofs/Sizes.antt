-- How many bytes messages take in the kernel's own layout, one after another.
use Rattle.std.proofs.Common.{◌≡◌, ℕ, ◌+◌, ◌-◌, ◌<◌, ◌≤◌, ◌++◌, true, false, min, List, [], length, take, drop, Option, Some, None, refl, sym, ap, ◌∙◌, arith, inl, inr, nat_le, nat_lt, append_assoc, length-append}
use Rattle.std.specs.Prelude.{if◌then◌else◌}
use Rattle.std.specs.Option.{option_map}
use Rattle.std.proofs.lemmas.Bool.{and_from, and_parts, cases_Bool, le-leb, le-ltb, leb-true}
use Rattle.std.proofs.lemmas.List.{append-nil, drop-drop, drop_min, length-drop, length-take, take_all, take_at}
use Rattle.std.proofs.lemmas.List.Sums.{sum_by-cons}
use Rattle.std.proofs.lemmas.Option.{none-some, same_Some}
use Rattle.message_layouts.specs.Controls.{Control, behind_first, control_bytes, control_size, first_control, further_in, header_size, is_good, native_bytes, native_size, padded, spelled, spelled_size, told_length, with_first}
use Rattle.message_layouts.proofs.Further.{further_turn, short_turn, turn}

pub padded_8_few : (n : ℕ) → padded 8 n ≤ n + 7
padded_8_few n = omega arith

pub padded_4_most : (n : ℕ) → n ≤ padded 4 n
padded_4_most n = omega arith

-- fewer bytes than a header
pub size_short : (bytes : List ℕ) → length bytes < 12 → native_size bytes ≡ Some 0
size_short bytes short = ap (option_map (spelled_size 8)) (further_turn 4 bytes (omega arith) ∙ short_turn 4 bytes _ short)

long_turn : (bytes : List ℕ) → 12 ≤ length bytes → nat_lt (length bytes) (header_size 4) ≡ false
long_turn bytes long = le-ltb (length bytes) (header_size 4) (omega arith)

-- a header that isn't good
pub size_bad : (bytes : List ℕ) → 12 ≤ length bytes → is_good 4 bytes ≡ false → native_size bytes ≡ None
size_bad bytes long bad =
    let none : turn 4 bytes (further_in 4 (behind_first 4 bytes)) ≡ None = rw (long_turn bytes long, bad) refl in
    ap (option_map (spelled_size 8)) (further_turn 4 bytes (omega arith) ∙ none)

more : (c : Control) (later : Option (List Control)) → option_map (spelled_size 8) (with_first c later) ≡ option_map (λ (n : ℕ). control_size 8 c + n) (option_map (spelled_size 8) later)
more c (Some cs) = ap Some (sum_by-cons (control_size 8) c cs)
more c None = refl

first_size : (bytes : List ℕ) → is_good 4 bytes ≡ true → control_size 8 (first_control 4 bytes) ≡ padded 8 (told_length 4 bytes + 4)
first_size bytes good =
    let parts = and_parts (nat_le (header_size 4) (told_length 4 bytes)) (nat_le (told_length 4 bytes) (length bytes)) good in
    let low = leb-true _ _ parts.0 in
    let high = leb-true _ _ parts.1 in
    let count : length (take (told_length 4 bytes - header_size 4) (drop (header_size 4) bytes)) ≡ told_length 4 bytes - header_size 4 = simp (length-take, length-drop) (omega (arith, low, high)) in
    let whole : header_size 8 + length (take (told_length 4 bytes - header_size 4) (drop (header_size 4) bytes)) ≡ told_length 4 bytes + 4 = omega (arith, count, low) in
    ap (padded 8) whole

-- a good first message
pub size_more : (bytes : List ℕ) (next : ℕ) → 12 ≤ length bytes → is_good 4 bytes ≡ true → next ≡ min (padded 4 (told_length 4 bytes)) (length bytes)
    → native_size bytes ≡ option_map (λ (n : ℕ). padded 8 (told_length 4 bytes + 4) + n) (native_size (drop next bytes))
size_more bytes next long good is =
    let behind : drop next bytes ≡ behind_first 4 bytes = ap (λ (k : ℕ). drop k bytes) is ∙ drop_min (padded 4 (told_length 4 bytes)) bytes in
    let here : turn 4 bytes (further_in 4 (behind_first 4 bytes)) ≡ with_first (first_control 4 bytes) (further_in 4 (behind_first 4 bytes)) = rw (long_turn bytes long, good) refl in
    ap (option_map (spelled_size 8)) (further_turn 4 bytes (omega arith) ∙ here) ∙ more (first_control 4 bytes) (further_in 4 (behind_first 4 bytes))
    ∙ rw (first_size bytes good, behind) refl

-- where a header counts itself and isn't more than there is
pub good_from : (bytes : List ℕ) → 12 ≤ told_length 4 bytes → told_length 4 bytes ≤ length bytes → is_good 4 bytes ≡ true
good_from bytes low high = and_from _ _ (le-leb (header_size 4) (told_length 4 bytes) low) (le-leb (told_length 4 bytes) (length bytes) high)

parted : (a : ℕ) (o : Option ℕ) (room : ℕ) → option_map (λ (n : ℕ). a + n) o ≡ Some room → (a ≤ room) × (o ≡ Some (room - a))
parted a (Some n) room h = let e : a + n ≡ room = same_Some _ _ h in (omega (arith, e), ap Some (omega (arith, e)))
parted a None room h = absurd (none-some room h)

-- the first of messages that take so many bytes
pub size_first : (bytes : List ℕ) (next room : ℕ) → 12 ≤ length bytes → next ≡ min (padded 4 (told_length 4 bytes)) (length bytes) → native_size bytes ≡ Some room
    → record {
      low : 12 ≤ told_length 4 bytes;
      high : told_length 4 bytes ≤ length bytes;
      fits : padded 8 (told_length 4 bytes + 4) ≤ room;
      rest : native_size (drop next bytes) ≡ Some (room - padded 8 (told_length 4 bytes + 4));
    }
size_first bytes next room long is told = elim (cases_Bool (is_good 4 bytes)) [
  | inl good ↦
      let parts = and_parts (nat_le (header_size 4) (told_length 4 bytes)) (nat_le (told_length 4 bytes) (length bytes)) good in
      let p = parted (padded 8 (told_length 4 bytes + 4)) (native_size (drop next bytes)) room (sym (size_more bytes next long good is) ∙ told) in
      record { low = leb-true _ _ parts.0; high = leb-true _ _ parts.1; fits = p.0; rest = p.1 }
  | inr bad ↦ absurd (none-some room (sym (size_bad bytes long bad) ∙ told))
]

-- bytes in front of those of messages
abbrev pub in_front : List ℕ → Option (List ℕ) → Option (List ℕ)
in_front bytes others = option_map (λ (rest : List ℕ). bytes ++ rest) others

in_front_twice : (first second : List ℕ) (o : Option (List ℕ)) → in_front first (in_front second o) ≡ in_front (first ++ second) o
in_front_twice first second (Some rest) = ap Some (sym (append_assoc first second rest))
in_front_twice first second None = refl

pub in_front_none : (o : Option (List ℕ)) → in_front [] o ≡ o
in_front_none (Some rest) = refl
in_front_none None = refl

more_bytes : (c : Control) (later : Option (List Control)) → option_map (spelled 8) (with_first c later) ≡ in_front (control_bytes 8 c) (option_map (spelled 8) later)
unfolding spelled
more_bytes c (Some cs) = refl
more_bytes c None = refl

-- the first message's bytes stand in front of those of the others
bytes_more : (bytes : List ℕ) (next : ℕ) → 12 ≤ length bytes → is_good 4 bytes ≡ true → next ≡ min (padded 4 (told_length 4 bytes)) (length bytes)
    → native_bytes bytes ≡ in_front (control_bytes 8 (first_control 4 bytes)) (native_bytes (drop next bytes))
bytes_more bytes next long good is =
    let behind : drop next bytes ≡ behind_first 4 bytes = ap (λ (k : ℕ). drop k bytes) is ∙ drop_min (padded 4 (told_length 4 bytes)) bytes in
    let here : turn 4 bytes (further_in 4 (behind_first 4 bytes)) ≡ with_first (first_control 4 bytes) (further_in 4 (behind_first 4 bytes)) = rw (long_turn bytes long, good) refl in
    ap (option_map (spelled 8)) (further_turn 4 bytes (omega arith) ∙ here) ∙ more_bytes (first_control 4 bytes) (further_in 4 (behind_first 4 bytes))
    ∙ ap (λ (bs : List ℕ). in_front (control_bytes 8 (first_control 4 bytes)) (native_bytes bs)) (sym behind)

-- one message more was put, behind those before it
pub one_more_put : (from out first rest : List ℕ) (at put size next : ℕ) → put ≤ length out → length first ≡ size
    → 12 ≤ length (drop at from) → is_good 4 (drop at from) ≡ true → next ≡ min (padded 4 (told_length 4 (drop at from))) (length (drop at from))
    → first ≡ control_bytes 8 (first_control 4 (drop at from))
    → native_bytes from ≡ in_front (take put out) (native_bytes (drop at from))
    → native_bytes from ≡ in_front (take (put + size) (take put out ++ (first ++ rest))) (native_bytes (drop (at + next) from))
one_more_put from out first rest at put size next inside all long good is here so_far =
    let front : length (take put out ++ first) ≡ put + size = simp (length-append, length-take) (omega (arith, inside, all)) in
    let both : take (put + size) (take put out ++ (first ++ rest)) ≡ take put out ++ first = ap (take (put + size)) (sym (append_assoc (take put out) first rest)) ∙ take_at (take put out ++ first) rest (put + size) front in
    let far : drop next (drop at from) ≡ drop (at + next) from = drop-drop next at from in
    let more : native_bytes (drop at from) ≡ in_front first (native_bytes (drop (at + next) from)) = rw (here, ← far) (bytes_more (drop at from) next long good is) in
    so_far ∙ ap (in_front (take put out)) more ∙ in_front_twice (take put out) first (native_bytes (drop (at + next) from)) ∙ rw both refl

-- no message is left, and all bytes were put
pub all_put : (from out : List ℕ) (at put : ℕ) → length (drop at from) < 12 → native_size (drop at from) ≡ Some (length out - put)
    → native_bytes from ≡ in_front (take put out) (native_bytes (drop at from)) → native_bytes from ≡ Some out
unfolding spelled
all_put from out at put short size so_far =
    let none : 0 ≡ length out - put = same_Some _ _ (sym (size_short (drop at from) short) ∙ size) in
    let end : native_bytes (drop at from) ≡ Some [] = ap (option_map (spelled 8)) (further_turn 4 (drop at from) (omega arith) ∙ short_turn 4 (drop at from) _ short) in
    so_far ∙ ap (in_front (take put out)) end ∙ ap Some (append-nil (take put out) ∙ take_all put out (omega (arith, none)))

-- the length that is told, where it is good
abbrev pub good_told : List ℕ → Option ℕ
good_told bytes = if is_good 4 bytes then Some (told_length 4 bytes) else None

told_good : (bytes : List ℕ) (told : ℕ) → Some told ≡ good_told bytes → (is_good 4 bytes ≡ true) × (told ≡ told_length 4 bytes)
told_good bytes told is = elim (cases_Bool (is_good 4 bytes)) [
  | inl good ↦ (good, same_Some _ _ (rw good at is))
  | inr bad ↦ absurd (none-some told (sym (rw bad at is)))
]

told_bad : (bytes : List ℕ) → None ≡ good_told bytes → is_good 4 bytes ≡ false
told_bad bytes is = elim (cases_Bool (is_good 4 bytes)) [
  | inl good ↦ absurd (none-some (told_length 4 bytes) (rw good at is))
  | inr bad ↦ bad
]

-- so many bytes more
abbrev pub and_more : ℕ → Option ℕ → Option ℕ
and_more size others = option_map (λ (n : ℕ). size + n) others

more_twice : (a b : ℕ) (o : Option ℕ) → and_more a (and_more b o) ≡ and_more (a + b) o
more_twice a b (Some n) = ap Some (omega arith)
more_twice a b None = refl

-- one message more was counted, behind those before it
pub one_more_counted : (bytes : List ℕ) (at size told next : ℕ) → 12 ≤ length (drop at bytes) → Some told ≡ good_told (drop at bytes)
    → next ≡ min (padded 4 told) (length (drop at bytes)) → native_size bytes ≡ and_more size (native_size (drop at bytes))
    → native_size bytes ≡ and_more (size + padded 8 (told + 4)) (native_size (drop (at + next) bytes))
one_more_counted bytes at size told next long is here so_far =
    let g = told_good (drop at bytes) told is in
    let far : drop next (drop at bytes) ≡ drop (at + next) bytes = drop-drop next at bytes in
    let more = size_more (drop at bytes) next long g.0 (rw g.1 at here) in
    so_far ∙ ap (and_more size) more ∙ more_twice size (padded 8 (told_length 4 (drop at bytes) + 4)) (native_size (drop next (drop at bytes))) ∙ rw (← g.1, far) refl

pub counted_bad : (bytes : List ℕ) (at size : ℕ) → 12 ≤ length (drop at bytes) → None ≡ good_told (drop at bytes)
    → native_size bytes ≡ and_more size (native_size (drop at bytes)) → native_size bytes ≡ None
counted_bad bytes at size long is so_far = so_far ∙ ap (and_more size) (size_bad (drop at bytes) long (told_bad (drop at bytes) is))

pub all_counted : (bytes : List ℕ) (at size : ℕ) → length (drop at bytes) < 12 → native_size bytes ≡ and_more size (native_size (drop at bytes)) → native_size bytes ≡ Some size
all_counted bytes at size short so_far = so_far ∙ ap (and_more size) (size_short (drop at bytes) short) ∙ ap Some (omega arith)

pub told_bounds : (bytes : List ℕ) (told : ℕ) → Some told ≡ good_told bytes → (12 ≤ told) × (told ≤ length bytes)
told_bounds bytes told is =
    let g = told_good bytes told is in
    let parts = and_parts (nat_le (header_size 4) (told_length 4 bytes)) (nat_le (told_length 4 bytes) (length bytes)) g.0 in
    let low = leb-true _ _ parts.0 in
    let high = leb-true _ _ parts.1 in
    rw g.1 (low, high)

-- what is put in the midst of bytes leaves as many
pub whole_put : (out first : List ℕ) (put size : ℕ) → put + size ≤ length out → length first ≡ size → length (take put out ++ (first ++ drop size (drop put out))) ≡ length out
whole_put out first put size inside all = simp (length-append, length-take, length-drop) (omega (arith, inside, all))
