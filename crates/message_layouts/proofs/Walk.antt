-- The messages of bytes of the kernel's own layout: the first, and those behind it.
use Rattle.std.proofs.Common.{◌≡◌, ℕ, ◌<◌, ◌≤◌, true, false, List, [], ◌∷◌, length, nat_le, Option, Some, None, refl, ap, ◌∙◌, arith, inl, inr, is_some}
use Rattle.std.specs.Option.{option_map, unwrap_or}
use Rattle.std.proofs.lemmas.Bool.{and_parts, cases_Bool, le-ltb, leb-true}
use Rattle.message_layouts.specs.Controls.{Control, behind_first, controls_of, first_control, further_in, header_size, is_cut_short, is_good, spelled_size, told_length, with_first}
use Rattle.std.proofs.lemmas.Option.{none-some}
use Rattle.message_layouts.specs.Walks.{messages_in}
use Rattle.message_layouts.proofs.Further.{further_turn, short_turn, turn}

false-not-true : false ≡ true → ⊥
false-not-true same = cc

-- where there is a list, its messages are further messages
pub whole : (bytes : List ℕ) → is_some (controls_of 8 bytes) ≡ true → controls_of 8 bytes ≡ further_in 8 bytes
unfolding controls_of
whole bytes some = elim (cases_Bool (is_cut_short 8 bytes)) [
  | inl short ↦ absurd (false-not-true (rw short at some))
  | inr long ↦ rw long refl
]

there : (o : Option (List Control)) → is_some o ≡ true → o ≡ Some (unwrap_or o [])
there (Some cs) some = refl
there None some = absurd (false-not-true some)

pub whole_list : (bytes : List ℕ) → is_some (controls_of 8 bytes) ≡ true → controls_of 8 bytes ≡ Some (messages_in bytes)
whole_list bytes some = whole bytes some ∙ there (further_in 8 bytes) (rw (whole bytes some) at some)

-- fewer bytes than a header
pub none_left : (bytes : List ℕ) → length bytes < 16 → messages_in bytes ≡ []
none_left bytes short = ap (λ (o : Option (List Control)). unwrap_or o []) (further_turn 8 bytes (omega arith) ∙ short_turn 8 bytes _ short)

first_good : (bytes : List ℕ) → 16 ≤ length bytes → is_some (further_in 8 bytes) ≡ true → is_good 8 bytes ≡ true
first_good bytes long some = elim (cases_Bool (is_good 8 bytes)) [
  | inl good ↦ good
  | inr bad ↦
      let none : turn 8 bytes (further_in 8 (behind_first 8 bytes)) ≡ None = rw (le-ltb (length bytes) (header_size 8) long, bad) refl in
      absurd (false-not-true (rw (further_turn 8 bytes (omega arith) ∙ none) at some))
]

split : (c : Control) (o whole : Option (List Control)) → whole ≡ with_first c o → is_some whole ≡ true → (unwrap_or whole [] ≡ c ∷ unwrap_or o []) × (is_some o ≡ true)
split c (Some cs) whole is some = (ap (λ (w : Option (List Control)). unwrap_or w []) is, refl)
split c None whole is some = absurd (false-not-true (rw is at some))

-- a first message, and what is behind it
pub first_left : (bytes : List ℕ) → 16 ≤ length bytes → is_some (further_in 8 bytes) ≡ true → record {
  low : 16 ≤ told_length 8 bytes;
  high : told_length 8 bytes ≤ length bytes;
  first : messages_in bytes ≡ first_control 8 bytes ∷ messages_in (behind_first 8 bytes);
  others : is_some (further_in 8 (behind_first 8 bytes)) ≡ true;
}
first_left bytes long some =
    let good = first_good bytes long some in
    let parts = and_parts (nat_le (header_size 8) (told_length 8 bytes)) (nat_le (told_length 8 bytes) (length bytes)) good in
    let here : turn 8 bytes (further_in 8 (behind_first 8 bytes)) ≡ with_first (first_control 8 bytes) (further_in 8 (behind_first 8 bytes)) = rw (le-ltb (length bytes) (header_size 8) long, good) refl in
    let both = split (first_control 8 bytes) (further_in 8 (behind_first 8 bytes)) (further_in 8 bytes) (further_turn 8 bytes (omega arith) ∙ here) some in
    record { low = leb-true _ _ parts.0; high = leb-true _ _ parts.1; first = both.0; others = both.1 }

-- what has a size is a list
pub list_there : (whole other : Option (List Control)) (n : ℕ) → other ≡ whole → option_map (spelled_size 8) whole ≡ Some n → is_some other ≡ true
list_there (Some cs) other n same size = rw same refl
list_there None other n same size = absurd (none-some n size)
