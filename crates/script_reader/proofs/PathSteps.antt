-- One turn and the end of the loop over a path.
use Rattle.std.proofs.Common.{◌≡◌, ℕ, ◌+◌, ◌-◌, ◌<◌, ◌≤◌, Bool, true, false, List, [], ◌∷◌, ◌++◌, length, get_or, take, drop, refl, sym, ap, ◌∙◌, arith}
use Rattle.std.proofs.lemmas.Bool.{eq-eqb, ne_eqb}
use Rattle.std.proofs.lemmas.List.{at_drop_more, at_drop_all, get_or-drop, length-drop, take_more}
use Rattle.script_reader.specs.Fields.{is_name, is_graphic, are_names}

pub names_slash : (name xs : List ℕ) (i d : ℕ) → i < length xs → get_or xs i d ≡ 47 → is_name name ≡ true → are_names name (drop i xs) ≡ are_names [] (drop (i + 1) xs)
unfolding are_names
names_slash name xs i d h e good = at_drop_more (are_names name) xs i d h ∙ rw (eq-eqb (get_or xs i d) 47 e, good) refl

pub names_bad : (name xs : List ℕ) (i d : ℕ) → i < length xs → get_or xs i d ≡ 47 → is_name name ≡ false → are_names name (drop i xs) ≡ false
unfolding are_names
names_bad name xs i d h e bad = at_drop_more (are_names name) xs i d h ∙ rw (eq-eqb (get_or xs i d) 47 e, bad) refl

pub names_byte : (name xs : List ℕ) (i d : ℕ) → i < length xs → (get_or xs i d ≡ 47 → ⊥) → is_graphic (get_or xs i d) ≡ false → are_names name (drop i xs) ≡ false
unfolding are_names
names_byte name xs i d h ne bad = at_drop_more (are_names name) xs i d h ∙ rw (ne_eqb (get_or xs i d) 47 ne, bad) refl

grown : (xs : List ℕ) (from i d : ℕ) → from ≤ i → i < length xs → take (i + 1 - from) (drop from xs) ≡ take (i - from) (drop from xs) ++ get_or xs i d ∷ []
grown xs from i d le h =
    let size : i + 1 - from ≡ (i - from) + 1 = omega arith in
    let place : from + (i - from) ≡ i = omega arith in
    let byte : get_or (drop from xs) (i - from) d ≡ get_or xs i d = get_or-drop from xs (i - from) d ∙ ap (λ (n : ℕ). get_or xs n d) place in
    rw size (take_more (drop from xs) (i - from) d (omega (arith, length-drop from xs)) ∙ ap (λ (b : ℕ). take (i - from) (drop from xs) ++ b ∷ []) byte)

pub names_go : (xs : List ℕ) (from i d : ℕ) → from ≤ i → i < length xs → (get_or xs i d ≡ 47 → ⊥) → is_graphic (get_or xs i d) ≡ true
    → are_names (take (i - from) (drop from xs)) (drop i xs) ≡ are_names (take (i + 1 - from) (drop from xs)) (drop (i + 1) xs)
unfolding are_names
names_go xs from i d le h ne good =
    at_drop_more (are_names (take (i - from) (drop from xs))) xs i d h ∙ rw (ne_eqb (get_or xs i d) 47 ne, good, grown xs from i d le h) refl

pub names_end : (name xs : List ℕ) (i : ℕ) → length xs ≤ i → are_names name (drop i xs) ≡ is_name name
unfolding are_names
names_end name xs i h = at_drop_all (are_names name) xs i h

-- behind a slash the next name begins
pub names_begin : (xs all : List ℕ) (i : ℕ) → are_names [] (drop (i + 1) xs) ≡ are_names [] all → are_names (take (i + 1 - (i + 1)) (drop (i + 1) xs)) (drop (i + 1) xs) ≡ are_names [] all
names_begin xs all i e =
    let none : i + 1 - (i + 1) ≡ 0 = omega arith in
    rw none e

-- what stands behind the last slash is the last name
pub names_whole : (xs : List ℕ) (from i : ℕ) (all : Bool) → i ≡ length xs → are_names (take (i - from) (drop from xs)) (drop i xs) ≡ all → is_name (take (length xs - from) (drop from xs)) ≡ all
names_whole xs from i all e so_far =
    rw (← e) (sym (names_end (take (i - from) (drop from xs)) xs i (omega arith)) ∙ so_far)
