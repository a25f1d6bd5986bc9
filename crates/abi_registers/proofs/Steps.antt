-- The loop over forms, on lists.
use Rattle.std.proofs.Common.{◌≡◌, ℕ, ◌+◌, ◌-◌, ◌≤◌, ◌<◌, ℤ, pos, Bool, true, false, List, [], ◌∷◌, ◌++◌, length, take, drop, set, get_or, replicate, ap, sym, ◌∙◌, arith, append_assoc}
use Rattle.std.proofs.lemmas.List.{drop_more, take_more_set, drop-set-lt, drop-drop, drop-replicate, length-drop, length-replicate}
use Rattle.abi_registers.specs.declared.arguments.Form.{Form}
use Rattle.abi_registers.specs.declared.arguments.Form.TheVariants.{Word, Signed, Pair}
use Rattle.abi_registers.specs.Arguments.{first_place, words_of, value_at, values_from}

-- the values put so far, before those of the other forms
pub turn : (even : Bool) (words : List ℕ) (place : ℕ) (fs : List Form) (vs all : List ℤ) (i k : ℕ) (v : ℤ) (first taken : ℕ) (d : Form)
    → i < length fs → k < length vs → first ≡ first_place even (get_or fs i d) place → v ≡ value_at words (get_or fs i d) first
    → taken ≡ words_of (get_or fs i d) → take k vs ++ values_from even words place (drop i fs) ≡ all
    → take (k + 1) (set vs k v) ++ values_from even words (first + taken) (drop (i + 1) fs) ≡ all
turn even words place fs vs all i k v first taken d in_fs in_vs is_first is_value is_taken so_far =
    let more : drop i fs ≡ get_or fs i d ∷ drop (i + 1) fs = drop_more fs i d in_fs in
    let before : take k vs ++ values_from even words place (get_or fs i d ∷ drop (i + 1) fs) ≡ all = rw more at so_far in
    let put : take (k + 1) (set vs k v) ≡ take k vs ++ v ∷ [] = take_more_set vs k v in_vs in
    rw (put, is_value, is_taken, is_first) (rw append_assoc before)

-- a form ends at most three words after the place where it may begin
near_form : (even : Bool) (f : Form) (place : ℕ) → first_place even f place + words_of f ≤ place + 3
near_form even Word place = omega arith
near_form even Signed place = omega arith
near_form true Pair place = omega arith
near_form false Pair place = omega arith

pub near_step : (even : Bool) (f : Form) (place first taken : ℕ) → first ≡ first_place even f place → taken ≡ words_of f
    → first + taken ≤ place + 3
near_step even f place first taken is_first is_taken = rw (is_first, is_taken) (near_form even f place)

-- there is room for a value where fewer than six are put
pub room : (vs : List ℤ) (i : ℕ) → i < 6 → drop i vs ≡ replicate (6 - i) (pos 0) → i < length vs
room vs i small before =
    let left : length vs - i ≡ 6 - i = sym (length-drop i vs) ∙ (ap length before ∙ length-replicate (6 - i) (pos 0)) in
    omega arith

-- a value put leaves the others 0
pub unused_step : (vs : List ℤ) (i : ℕ) (v : ℤ) → i < length vs → drop i vs ≡ replicate (6 - i) (pos 0)
    → drop (i + 1) (set vs i v) ≡ replicate (6 - (i + 1)) (pos 0)
unused_step vs i v in_vs before =
    let kept : drop (i + 1) (set vs i v) ≡ drop (i + 1) vs = drop-set-lt (i + 1) vs i v (omega arith) in
    let rest : drop 1 (drop i vs) ≡ drop (i + 1) vs = drop-drop 1 i vs in
    let fewer : drop 1 (replicate (6 - i) (pos 0)) ≡ replicate ((6 - i) - 1) (pos 0) = drop-replicate 1 (6 - i) (pos 0) in
    let count : (6 - i) - 1 ≡ 6 - (i + 1) = omega arith in
    kept ∙ (sym rest ∙ (ap (drop 1) before ∙ (fewer ∙ ap (λ (n : ℕ). replicate n (pos 0)) count)))
