-- One turn and the end of a loop over fields.
use Rattle.std.proofs.Common.{◌≡◌, ℕ, suc, ◌+◌, ◌-◌, ◌<◌, ◌≤◌, List, [], ◌∷◌, ◌++◌, length, take, set, refl, sym, ap, ◌∙◌, append_assoc, arith}
use Rattle.std.specs.Prelude.{Option, Some, None}
use Rattle.std.proofs.lemmas.List.{append-nil, take_more_set, take_all}
use Rattle.script_reader.specs.Fields.{◌>>=◌, first_field, after_field, fields_in}

-- values in front of others
abbrev pub with_front : {A : Type 0} → List A → Option (List A) → Option (List A)
with_front front values = values >>= λ vs. Some (front ++ vs)

regroup : {A : Type 0} (front : List A) (v : A) (values : Option (List A)) → with_front front (values >>= λ vs. Some (v ∷ vs)) ≡ with_front (front ++ v ∷ []) values
regroup front v None = refl
regroup {A = A} front v (Some vs) = ap (λ (xs : List A). Some xs) (sym (append_assoc front (v ∷ []) vs))

pub fields_go : {A : Type 0} (read : List ℕ → Option A) (n i : ℕ) (v x : A) (values : List A) (rest : List ℕ) (left after : Option (List ℕ)) (all : Option (List A)) → i < n → i < length values → left ≡ Some rest
    → read (first_field rest) ≡ Some v → after ≡ after_field rest → x ≡ v → with_front (take i values) (fields_in read (n - i) left) ≡ all
    → with_front (take (i + 1) (set values i x)) (fields_in read (n - (i + 1)) after) ≡ all
unfolding fields_in
fields_go read n i v x values rest left after all lt inside e found f same so_far =
    let count : n - i ≡ suc (n - (i + 1)) = omega arith in
    let turn : fields_in read (n - i) left ≡ (fields_in read (n - (i + 1)) after >>= λ vs. Some (v ∷ vs)) = rw (count, e, found, f) refl in
    rw (take_more_set values i x inside, same) (sym (regroup (take i values) v (fields_in read (n - (i + 1)) after)) ∙ ap (with_front (take i values)) (sym turn) ∙ so_far)

pub fields_stop : {A : Type 0} (read : List ℕ → Option A) (n i : ℕ) (front : List A) (rest : List ℕ) (left : Option (List ℕ)) (all : Option (List A)) → i < n → left ≡ Some rest → read (first_field rest) ≡ None
    → with_front front (fields_in read (n - i) left) ≡ all → None ≡ all
unfolding fields_in
fields_stop read n i front rest left all lt e found so_far =
    let count : n - i ≡ suc (n - (i + 1)) = omega arith in
    rw (count, e, found) at so_far

pub fields_short : {A : Type 0} (read : List ℕ → Option A) (n i : ℕ) (front : List A) (left : Option (List ℕ)) (all : Option (List A)) → i < n → left ≡ None → with_front front (fields_in read (n - i) left) ≡ all → None ≡ all
unfolding fields_in
fields_short read n i front left all lt e so_far =
    let count : n - i ≡ suc (n - (i + 1)) = omega arith in
    rw (count, e) at so_far

pub fields_long : {A : Type 0} (read : List ℕ → Option A) (n i : ℕ) (front : List A) (rest : List ℕ) (left : Option (List ℕ)) (all : Option (List A)) → n ≤ i → left ≡ Some rest → with_front front (fields_in read (n - i) left) ≡ all
    → None ≡ all
unfolding fields_in
fields_long read n i front rest left all le e so_far =
    let count : n - i ≡ 0 = omega arith in
    rw (count, e) at so_far

pub fields_done : {A : Type 0} (read : List ℕ → Option A) (n i : ℕ) (values : List A) (left : Option (List ℕ)) (all : Option (List A)) → n ≤ i → length values ≡ n → left ≡ None
    → with_front (take i values) (fields_in read (n - i) left) ≡ all → Some values ≡ all
unfolding fields_in
fields_done {A = A} read n i values left all le len e so_far =
    let count : n - i ≡ 0 = omega arith in
    let whole : take i values ++ [] ≡ values = append-nil (take i values) ∙ take_all i values (omega arith) in
    ap (λ (xs : List A). Some xs) (sym whole) ∙ (rw (count, e) at so_far)
