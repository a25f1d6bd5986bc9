-- The name in the address that is told of it.
use Rattle.std.proofs.Common.{◌≡◌, ℕ, suc, ◌+◌, ◌<◌, ◌≤◌, Bool, true, false, cond, ltb, List, [], ◌∷◌, ◌++◌, length, get_or, set, take, drop, Option, Some, None, Ok, refl, sym, ap, ◌∙◌, arith, eqb, inl, inr, length-append, nat_lt, not, min, add-one, append_assoc, slice_index, ◌≢◌, eq-eqb, ne_eqb}
use Rattle.std.specs.Option.{unwrap_or}
use Rattle.std.specs.List.{position_or_len}
use Rattle.std.proofs.lemmas.Bool.{cases_Bool, le-ltb}
use Rattle.std.proofs.lemmas.Bool.Decides.{nat_tests}
use Rattle.std.proofs.lemmas.List.{drop-drop, drop_all, drop_at, get_or-take, get_or_push, length-drop, length-take, set_split, take-take, take_all, take_at, append-nil}
use Rattle.std.proofs.lemmas.List.Sums.{position_or_len_is, prefix_len-le-length}
use Rattle.message_layouts.specs.Addresses.{address_bytes, address_of, is_path, name_in, path_bytes}
use Rattle.message_layouts.specs.Laws.{IsName}

-- the first place that passes, or the end
pub first_or_all : (p : ℕ → Bool) (xs : List ℕ) (o : Option ℕ) → o ≡ cond (ltb (position_or_len p xs) (length xs)) (Some (position_or_len p xs)) None
    → unwrap_or o (length xs) ≡ position_or_len p xs
first_or_all p xs o is =
    let inside = prefix_len-le-length (λ (x : ℕ). not (p x)) xs in
    elim (cases_Bool (ltb (position_or_len p xs) (length xs))) [
      | inl found ↦ rw (is, found) refl
      | inr none ↦ rw (is, none) (grind (arith, nat_tests, none, inside))
    ]

-- a zero behind a path that was put
pub path_put : (name out front : List ℕ) → front ≡ name → length name < length out → (get_or name 0 0 ≡ 0 → ⊥)
    → set (front ++ drop (length name) out) (length name) 0 ≡ path_bytes name ++ drop (length (path_bytes name)) out
path_put name out front same inside some =
    let path : is_path name ≡ true = grind (arith, nat_tests, some) in
    let whole = name ++ drop (length name) out in
    let long : length name < length whole = simp (length-append, length-drop) (omega (arith, inside)) in
    let more : length name + 1 ≡ length (name ++ 0 ∷ []) = simp length-append refl in
    let behind : drop (suc (length name)) whole ≡ drop (length name + 1) out =
    ap (λ (k : ℕ). drop k whole) (sym (add-one (length name))) ∙ sym (drop-drop 1 (length name) whole) ∙ ap (drop 1) (drop_at name (drop (length name) out) (length name) refl) ∙ drop-drop 1 (length name) out in
    let put : set whole (length name) 0 ≡ (name ++ 0 ∷ []) ++ drop (length (name ++ 0 ∷ [])) out =
    set_split whole (length name) 0 long ∙ rw (take_at name (drop (length name) out) (length name) refl, behind, more) (sym (append_assoc name (0 ∷ []) _)) in
    rw (same, path) put

-- an address that was put
pub address_put : (out buffer new path : List ℕ) → length out ≡ 111 → buffer ≡ 1 ∷ 0 ∷ drop 2 out → new ≡ path ++ drop (length path) (take 109 (drop 2 buffer))
    → take 2 buffer ++ (new ++ drop 109 (drop 2 buffer)) ≡ (1 ∷ 0 ∷ path) ++ drop (length (1 ∷ 0 ∷ path)) out
address_put out buffer new path all family put =
    let rest : length (drop 2 out) ≡ 109 = simp length-drop (omega (arith, all)) in
    let mid : take 109 (drop 2 buffer) ≡ drop 2 out = rw family (take_all 109 (drop 2 out) (omega (arith, rest))) in
    let none : drop 109 (drop 2 buffer) ≡ [] = rw family (drop_all 109 (drop 2 out) (omega (arith, rest))) in
    let front : take 2 buffer ≡ 1 ∷ 0 ∷ [] = rw family refl in
    let two : 2 + length path ≡ length (1 ∷ 0 ∷ path) = omega arith in
    let far : drop (length path) (drop 2 out) ≡ drop (length (1 ∷ 0 ∷ path)) out = drop-drop (length path) 2 out ∙ ap (λ (k : ℕ). drop k out) two in
    rw (front, none, put, mid, far, append-nil (path ++ drop (length (1 ∷ 0 ∷ path)) out)) refl

-- the address of a name of 1 to 108 bytes
told : (text : List ℕ) → 1 ≤ length text → length text ≤ 108 → address_of (1 ∷ 0 ∷ text) ≡ Ok (name_in text)
told text some few =
    let short : nat_lt (length (1 ∷ 0 ∷ text)) 3 ≡ false = le-ltb (length (1 ∷ 0 ∷ text)) 3 (omega (arith, some)) in
    let long : nat_lt 110 (length (1 ∷ 0 ∷ text)) ≡ false = le-ltb 110 (length (1 ∷ 0 ∷ text)) (omega (arith, few)) in
    rw (short, long) refl

no_less : (name : List ℕ) → length name ≤ length (path_bytes name)
no_less name = elim (cases_Bool (is_path name)) [
  | inl path ↦ rw path (simp length-append (omega arith))
  | inr abstract ↦ rw abstract (omega arith)
]

-- a path without a zero ends before the zero behind it
path_back : (name : List ℕ) → length name ≤ 108 → is_path name ≡ true → ((k : ℕ) → k < length name → slice_index name k ≢ 0) → name_in (take 108 (name ++ 0 ∷ [])) ≡ name
path_back name few path none =
    let text = take 108 (name ++ 0 ∷ []) in
    let count : length text ≡ min 108 (length name + 1) = length-take 108 (name ++ 0 ∷ []) ∙ ap (min 108) (length-append name (0 ∷ [])) in
    let front : take (length name) text ≡ name = take-take (length name) 108 (name ++ 0 ∷ []) few ∙ take_at name (0 ∷ []) (length name) refl in
    let item : (k : ℕ) → k < length name → get_or text k 0 ≡ get_or name k 0 = λ k less. sym (get_or-take (length name) text k 0 less) ∙ ap (λ (xs : List ℕ). get_or xs k 0) front in
    let some : 0 < length name = has_item name path in
    let still : is_path text ≡ true = rw (item 0 some) path in
    let before : (k : ℕ) → k < length name → eqb (get_or text k 0) 0 ≡ false = λ k less. rw (item k less) (ne_eqb (get_or name k 0) 0 (none k less)) in
    let end : length name < length text → eqb (get_or text (length name) 0) 0 ≡ true = λ less. eq-eqb _ 0 (get_or-take 108 (name ++ 0 ∷ []) (length name) 0 (omega (arith, less, count)) ∙ get_or_push name 0 0 (length name) refl) in
    let place : position_or_len (λ b. eqb b 0) text ≡ length name = position_or_len_is (λ b. eqb b 0) text (length name) 0 (omega (arith, count, few)) before end in
    rw (still, place) front
  where
    has_item : (name : List ℕ) → is_path name ≡ true → 0 < length name
    has_item [] path = absurd (grind (arith, nat_tests, path))
    has_item (b ∷ name) path = omega arith

-- the name in the address that is told of it is the name
pub address_back : (name : List ℕ) → IsName name → address_of (take 110 (address_bytes name)) ≡ Ok name
address_back name is =
    let whole : take 108 name ≡ name = take_all 108 name is.1 in
    let some : 1 ≤ length (take 108 (path_bytes name)) = simp length-take (omega (arith, is.0, no_less name)) in
    let few : length (take 108 (path_bytes name)) ≤ 108 = simp length-take (omega arith) in
    let back : name_in (take 108 (path_bytes name)) ≡ name = elim (cases_Bool (is_path name)) [
      | inl path ↦ rw path (path_back name is.1 path (is.2 path))
      | inr abstract ↦ rw (abstract, whole, abstract) refl
    ] in
    rw whole (told (take 108 (path_bytes name)) some few ∙ ap Ok back)
