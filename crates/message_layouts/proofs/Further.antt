-- The messages of bytes, one after another, and that the relation and the function are one.
use Rattle.std.proofs.Common.{◌≡◌, ℕ, zero, suc, ◌+◌, ◌-◌, ◌*◌, ◌/◌, ◌<◌, ◌≤◌, Bool, true, false, ◌&&◌, nat_le, nat_lt, List, [], ◌∷◌, length, take, drop, Option, Some, None, refl, sym, ap, subst, ◌∙◌, arith, inl, inr, add-one}
use Rattle.std.proofs.Math.Nat.{lt-mul-div-succ, mul-suc, mul_comm}
use Rattle.std.specs.Prelude.{if◌then◌else◌}
use Rattle.std.proofs.lemmas.Bool.{and_from, and_parts, cases_Bool, le-leb, le-ltb, leb-true, ltb-true}
use Rattle.std.proofs.lemmas.Bool.Decides.{nat_tests}
use Rattle.std.proofs.lemmas.List.{length-drop, length-take}
use Rattle.std.proofs.lemmas.Option.{none-some, same_Some}
use Rattle.message_layouts.specs.Controls.{AreControls, AreFurther, BeginsWith, Control, behind_first, control_size, controls_of, first_control, further_in, further_within, header_size, is_cut_short, is_good, padded, told_length, with_first}

-- a multiple of a word that is no less
pub padded_most : (word n : ℕ) → 0 < word → n ≤ padded word n
padded_most word n some =
    let past = lt-mul-div-succ (n + (word - 1)) some in
    let e : word * ((n + (word - 1)) / word + 1) ≡ (n + (word - 1)) / word * word + word = ap (λ (k : ℕ). word * k) (add-one ((n + (word - 1)) / word)) ∙ mul-suc word ((n + (word - 1)) / word) ∙ ap (λ (k : ℕ). k + word) (mul_comm word ((n + (word - 1)) / word)) in
    omega (arith, past, e, some)

-- what stands behind a good message is shorter
shorter : (word n : ℕ) (bytes : List ℕ) → 0 < word → is_good word bytes ≡ true → length bytes ≤ suc n → length (behind_first word bytes) ≤ n
shorter word n bytes some good few =
    let parts = and_parts (nat_le (header_size word) (told_length word bytes)) (nat_le (told_length word bytes) (length bytes)) good in
    let low = leb-true _ _ parts.0 in
    let most = padded_most word (told_length word bytes) some in
    simp length-drop (omega (arith, low, most, few))

-- one turn, where so many may be looked at
abbrev pub turn : ℕ → List ℕ → Option (List Control) → Option (List Control)
turn word bytes later = if nat_lt (length bytes) (header_size word) then Some [] else if is_good word bytes then with_first (first_control word bytes) later else None

pub short_turn : (word : ℕ) (bytes : List ℕ) (later : Option (List Control)) → length bytes < header_size word → turn word bytes later ≡ Some []
short_turn word bytes later short = let e : nat_lt (length bytes) (header_size word) ≡ true = grind (arith, nat_tests) in rw e refl

-- to look at more messages than there are bytes changes nothing
enough : (n m word : ℕ) (bytes : List ℕ) → 0 < word → length bytes ≤ n → length bytes ≤ m → further_within n word bytes ≡ further_within m word bytes
unfolding further_within
enough zero zero word bytes some few less = refl
enough zero (suc m) word bytes some few less = sym (short_turn word bytes _ (omega arith))
enough (suc n) zero word bytes some few less = short_turn word bytes _ (omega arith)
enough (suc n) (suc m) word bytes some few less = elim (cases_Bool (nat_lt (length bytes) (header_size word))) [
  | inl short ↦ rw short refl
  | inr long ↦ elim (cases_Bool (is_good word bytes)) [
    | inl good ↦ rw (long, good) (ap (with_first (first_control word bytes)) (enough n m word (behind_first word bytes) some (shorter word n bytes some good few) (shorter word m bytes some good less)))
    | inr bad ↦ rw (long, bad) refl
  ]
]

-- the messages of bytes: the first, and those of what stands behind it
pub further_turn : (word : ℕ) (bytes : List ℕ) → 0 < word → further_in word bytes ≡ turn word bytes (further_in word (behind_first word bytes))
unfolding further_within
further_turn word bytes some = go (length bytes) refl
  where
    go : (n : ℕ) → length bytes ≡ n → further_in word bytes ≡ turn word bytes (further_in word (behind_first word bytes))
    go zero none = ap (λ (k : ℕ). further_within k word bytes) none ∙ sym (short_turn word bytes _ (omega arith))
    go (suc n) all = ap (λ (k : ℕ). further_within k word bytes) all ∙ elim (cases_Bool (is_good word bytes)) [
      | inl good ↦ ap (turn word bytes) (enough n (length (behind_first word bytes)) word (behind_first word bytes) some (shorter word n bytes some good (omega arith)) (omega arith))
      | inr bad ↦ rw bad refl
    ]

-- bytes that begin with a message
begins : (word : ℕ) (c : Control) (bytes : List ℕ) → BeginsWith word c bytes → record { long : nat_lt (length bytes) (header_size word) ≡ false; good : is_good word bytes ≡ true; first : first_control word bytes ≡ c; size : padded word (told_length word bytes) ≡ control_size word c }
begins word c bytes b =
    let count : told_length word bytes - header_size word ≡ length c.content = omega (arith, b.told) in
    let content : take (told_length word bytes - header_size word) (drop (header_size word) bytes) ≡ c.content = ap (λ (k : ℕ). take k (drop (header_size word) bytes)) count ∙ b.content in
    record {
      long = le-ltb (length bytes) (header_size word) (omega (arith, b.whole));
      good = and_from _ _ (le-leb (header_size word) (told_length word bytes) (omega (arith, b.told))) (le-leb (told_length word bytes) (length bytes) (omega (arith, b.told, b.whole)));
      first = rw (b.level, b.kind, content) refl;
      size = ap (padded word) b.told;
    }

-- what the relation says, the function tells
pub told_further : (word : ℕ) (cs : List Control) (bytes : List ℕ) → 0 < word → AreFurther word cs bytes → further_in word bytes ≡ Some cs
told_further word [] bytes some short = further_turn word bytes some ∙ short_turn word bytes _ short
told_further word (c ∷ cs) bytes some are =
    let b = begins word c bytes are.0 in
    let rest : further_in word (behind_first word bytes) ≡ Some cs = ap (λ (k : ℕ). further_in word (drop k bytes)) b.size ∙ told_further word cs (drop (control_size word c) bytes) some are.1 in
    further_turn word bytes some ∙ rw (b.long, b.good, rest, b.first) refl

-- good bytes begin with the first message that the function tells
begins_first : (word : ℕ) (bytes : List ℕ) → is_good word bytes ≡ true → BeginsWith word (first_control word bytes) bytes
begins_first word bytes good =
    let parts = and_parts (nat_le (header_size word) (told_length word bytes)) (nat_le (told_length word bytes) (length bytes)) good in
    let low = leb-true _ _ parts.0 in
    let high = leb-true _ _ parts.1 in
    let count : length (take (told_length word bytes - header_size word) (drop (header_size word) bytes)) ≡ told_length word bytes - header_size word = simp (length-take, length-drop) (omega (arith, low, high)) in
    record {
      told = omega (arith, count, low);
      level = refl;
      kind = refl;
      content = ap (λ (k : ℕ). take k (drop (header_size word) bytes)) count;
      whole = omega (arith, count, low, high);
    }

split_first : (c : Control) (rest : Option (List Control)) (cs : List Control) → with_first c rest ≡ Some cs → (later : List Control) × (rest ≡ Some later) × (c ∷ later ≡ cs)
split_first c (Some later) cs h = (later, refl, same_Some _ _ h)
split_first c None cs h = absurd (none-some cs h)

further_short : (word : ℕ) (bytes : List ℕ) (cs : List Control) → 0 < word → length bytes < header_size word → further_in word bytes ≡ Some cs → AreFurther word cs bytes
further_short word bytes cs some short told =
    let none : [] ≡ cs = same_Some _ _ (sym (short_turn word bytes (further_in word (behind_first word bytes)) short) ∙ sym (further_turn word bytes some) ∙ told) in
    subst (λ (ds : List Control). AreFurther word ds bytes) none short

-- what the function tells, the relation says
further_told : (n word : ℕ) (bytes : List ℕ) (cs : List Control) → 0 < word → length bytes ≤ n → further_in word bytes ≡ Some cs → AreFurther word cs bytes
further_told zero word bytes cs some few told = further_short word bytes cs some (omega arith) told
further_told (suc n) word bytes cs some few told = elim (cases_Bool (nat_lt (length bytes) (header_size word))) [
  | inl short ↦ further_short word bytes cs some (ltb-true _ _ short) told
  | inr long ↦ elim (cases_Bool (is_good word bytes)) [
    | inl good ↦
        let b = begins_first word bytes good in
        let s = split_first (first_control word bytes) (further_in word (behind_first word bytes)) cs (rw (long, good) at (sym (further_turn word bytes some) ∙ told)) in
        let size : control_size word (first_control word bytes) ≡ padded word (told_length word bytes) = ap (padded word) (sym b.told) in
        let rest = ap (λ (k : ℕ). further_in word (drop k bytes)) size ∙ s.1 in
        let fewer = shorter word n bytes some good few in
        let less = rw (← size) at fewer in
        subst (λ (ds : List Control). AreFurther word ds bytes) s.2 (b, further_told n word (drop (control_size word (first_control word bytes)) bytes) s.0 some less rest)
    | inr bad ↦ absurd (none-some cs (rw (long, bad) at (sym (further_turn word bytes some) ∙ told)))
  ]
]

and_false : (b : Bool) → (b && false) ≡ false
and_false true = refl
and_false false = refl

-- THE LAW: the function gives a list exactly where the relation holds of it.
pub are_told : (word : ℕ) (cs : List Control) (bytes : List ℕ) → 0 < word → AreControls word cs bytes → controls_of word bytes ≡ Some cs
unfolding controls_of
are_told word [] bytes some none = rw none (further_turn word [] some ∙ short_turn word [] _ (omega arith))
are_told word (c ∷ cs) bytes some are =
    let long = (begins word c bytes are.0).long in
    let whole : is_cut_short word bytes ≡ false = rw long (and_false (nat_lt 0 (length bytes))) in
    rw whole (told_further word (c ∷ cs) bytes some are)

whole_bytes : (word : ℕ) (cs : List Control) (bytes : List ℕ) → is_cut_short word bytes ≡ false → AreFurther word cs bytes → AreControls word cs bytes
whole_bytes word [] [] whole short = refl
whole_bytes word [] (b ∷ bytes) whole short = absurd (grind (arith, nat_tests, whole, short))
whole_bytes word (c ∷ cs) bytes whole are = are

pub told_are : (word : ℕ) (cs : List Control) (bytes : List ℕ) → 0 < word → controls_of word bytes ≡ Some cs → AreControls word cs bytes
unfolding controls_of
told_are word cs bytes some told = elim (cases_Bool (is_cut_short word bytes)) [
  | inl short ↦ absurd (none-some cs (rw short at told))
  | inr whole ↦ whole_bytes word cs bytes whole (further_told (length bytes) word bytes cs some (omega arith) (rw whole at told))
]
