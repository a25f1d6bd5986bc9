-- One turn and the end of each loop over a field.
use Rattle.std.proofs.Common.{◌≡◌, ℕ, zero, suc, ◌+◌, ◌-◌, ◌*◌, ◌^◌, ◌<◌, ◌≤◌, Bool, true, false, cond, eqb, List, [], ◌∷◌, ◌++◌, length, get_or, take, drop, refl, sym, ap, ◌∙◌, append_assoc, add-one, add-zero, arith}
use Rattle.std.proofs.Math.Nat.{pow-succ'}
use Rattle.std.specs.Prelude.{Option, Some, None, ◌&&◌}
use Rattle.std.proofs.lemmas.Bool.{eq-eqb, ne_eqb}
use Rattle.std.proofs.lemmas.List.{drop_more, drop_all, at_drop_more, at_drop_all, append-nil, take_more, take_all, take_rest}
use Rattle.script_reader.specs.Fields.{same, first_field, after_field, digit, digits_from}

and_false : (b : Bool) → (b && false) ≡ false
and_false true = refl
and_false false = refl

pub same_turn : (xs ys : List ℕ) (i d : ℕ) → i < length xs → i < length ys → same (drop i xs) (drop i ys) ≡ (eqb (get_or xs i d) (get_or ys i d) && same (drop (i + 1) xs) (drop (i + 1) ys))
unfolding same
same_turn xs ys i d a b = rw (drop_more xs i d a, drop_more ys i d b) refl

pub same_end : (xs ys : List ℕ) (i : ℕ) → length xs ≤ i → length ys ≤ i → same (drop i xs) (drop i ys) ≡ true
unfolding same
same_end xs ys i a b = rw (drop_all i xs a, drop_all i ys b) refl

pub same_lengths : (xs ys : List ℕ) → (length xs ≡ length ys → ⊥) → same xs ys ≡ false
unfolding same
same_lengths [] [] h = absurd (h refl)
same_lengths [] (y ∷ ys) h = refl
same_lengths (x ∷ xs) [] h = refl
same_lengths (x ∷ xs) (y ∷ ys) h = rw (same_lengths xs ys (λ e. h (ap suc e))) (and_false (eqb x y))

pub field_turn : (xs : List ℕ) (i d : ℕ) → i < length xs → first_field (drop i xs) ≡ cond (eqb (get_or xs i d) 32) [] (get_or xs i d ∷ first_field (drop (i + 1) xs))
unfolding first_field
field_turn xs i d h = at_drop_more first_field xs i d h

pub field_end : (xs : List ℕ) (i : ℕ) → length xs ≤ i → first_field (drop i xs) ≡ []
unfolding first_field
field_end xs i h = at_drop_all first_field xs i h

pub after_turn : (xs : List ℕ) (i d : ℕ) → i < length xs → after_field (drop i xs) ≡ cond (eqb (get_or xs i d) 32) (Some (drop (i + 1) xs)) (after_field (drop (i + 1) xs))
unfolding after_field
after_turn xs i d h = at_drop_more after_field xs i d h

pub after_end : (xs : List ℕ) (i : ℕ) → length xs ≤ i → after_field (drop i xs) ≡ None
unfolding after_field
after_end xs i h = at_drop_all after_field xs i h

pub field_goes_on : (xs : List ℕ) (i d : ℕ) (all : List ℕ) → i < length xs → (get_or xs i d ≡ 32 → ⊥) → take i xs ++ first_field (drop i xs) ≡ all → take (i + 1) xs ++ first_field (drop (i + 1) xs) ≡ all
field_goes_on xs i d all h ne so_far =
    let turn : first_field (drop i xs) ≡ get_or xs i d ∷ first_field (drop (i + 1) xs) = field_turn xs i d h ∙ rw (ne_eqb (get_or xs i d) 32 ne) refl in
    rw (take_more xs i d h) (append_assoc (take i xs) (get_or xs i d ∷ []) (first_field (drop (i + 1) xs)) ∙ ap (λ (ys : List ℕ). take i xs ++ ys) (sym turn) ∙ so_far)

pub field_stops : (xs : List ℕ) (i d : ℕ) (all : List ℕ) → i < length xs → get_or xs i d ≡ 32 → take i xs ++ first_field (drop i xs) ≡ all → take i xs ≡ all
field_stops xs i d all h e so_far =
    let turn : first_field (drop i xs) ≡ [] = field_turn xs i d h ∙ rw (eq-eqb (get_or xs i d) 32 e) refl in
    sym (append-nil (take i xs)) ∙ ap (λ (ys : List ℕ). take i xs ++ ys) (sym turn) ∙ so_far

pub field_ends : (xs : List ℕ) (i : ℕ) (all : List ℕ) → length xs ≤ i → take i xs ++ first_field (drop i xs) ≡ all → xs ≡ all
field_ends xs i all le so_far =
    sym (append-nil xs) ∙ ap (λ (ys : List ℕ). ys ++ []) (sym (take_all i xs le)) ∙ ap (λ (ys : List ℕ). take i xs ++ ys) (sym (field_end xs i le)) ∙ so_far

pow_step : (i : ℕ) → 16 ^ (i + 1) ≡ 16 * 16 ^ i
pow_step i = rw add-one (pow-succ' 16 i)

pow_up : (j i : ℕ) → 16 ^ i ≤ 16 ^ (i + j)
pow_up zero i = rw add-zero (omega arith)
pow_up (suc j) i =
    let next : i + suc j ≡ (i + j) + 1 = omega arith in
    rw next (omega (arith, pow_up j i, pow_step (i + j)))

pub digits_end : (cs : List ℕ) (i v : ℕ) → length cs ≤ i → digits_from v (drop i cs) ≡ Some v
unfolding digits_from
digits_end cs i v h = at_drop_all (digits_from v) cs i h

pub after_stops : (xs : List ℕ) (i d n : ℕ) (all : Option (List ℕ)) → i < length xs → get_or xs i d ≡ 32 → n ≡ length xs → after_field (drop i xs) ≡ all → ◌≡◌ {A = Option (List ℕ)} (Some (take (n - (i + 1)) (drop (i + 1) xs))) all
after_stops xs i d n all h e len so_far =
    rw (len, take_rest xs (i + 1)) (sym (after_turn xs i d h ∙ rw (eq-eqb (get_or xs i d) 32 e) refl) ∙ so_far)

pub after_goes_on : (xs : List ℕ) (i d : ℕ) (all : Option (List ℕ)) → i < length xs → (get_or xs i d ≡ 32 → ⊥) → after_field (drop i xs) ≡ all → after_field (drop (i + 1) xs) ≡ all
after_goes_on xs i d all h ne so_far = sym (after_turn xs i d h ∙ rw (ne_eqb (get_or xs i d) 32 ne) refl) ∙ so_far

-- the next digit fits
pub digit_fits : (v d i : ℕ) → v < 16 ^ i → d < 16 → i < 16 → v * 16 + d < 2 ^ 64
digit_fits v d i small low turn =
    let sixteen : (i + 1) + (15 - i) ≡ 16 = omega arith in
    let most : 16 ^ (i + 1) ≤ 16 ^ 16 = rw sixteen at (pow_up (15 - i) (i + 1)) in
    omega (arith, most, pow_step i)

pub digit_small : (v d i : ℕ) → v < 16 ^ i → d < 16 → v * 16 + d < 16 ^ (i + 1)
digit_small v d i small low = omega (arith, pow_step i)

pub digits_stop : (cs : List ℕ) (i v d : ℕ) → i < length cs → digit (get_or cs i d) ≡ None → digits_from v (drop i cs) ≡ None
unfolding digits_from
digits_stop cs i v d h e = at_drop_more (digits_from v) cs i d h ∙ rw e refl

pub digits_go : (cs : List ℕ) (i v d x : ℕ) → i < length cs → digit (get_or cs i d) ≡ Some x → digits_from v (drop i cs) ≡ digits_from (v * 16 + x) (drop (i + 1) cs)
unfolding digits_from
digits_go cs i v d x h e = at_drop_more (digits_from v) cs i d h ∙ rw e refl

pub same_differs : (xs ys : List ℕ) (i d : ℕ) → i < length xs → i < length ys → (get_or xs i d ≡ get_or ys i d → ⊥) → same (drop i xs) (drop i ys) ≡ false
same_differs xs ys i d a b ne = same_turn xs ys i d a b ∙ rw (ne_eqb (get_or xs i d) (get_or ys i d) ne) refl

pub same_goes_on : (xs ys : List ℕ) (i d : ℕ) → i < length xs → i < length ys → get_or xs i d ≡ get_or ys i d → same (drop i xs) (drop i ys) ≡ same (drop (i + 1) xs) (drop (i + 1) ys)
same_goes_on xs ys i d a b e = same_turn xs ys i d a b ∙ rw (eq-eqb (get_or xs i d) (get_or ys i d) e) refl
