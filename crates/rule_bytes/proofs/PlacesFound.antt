-- Jumps: places that were found are those of the indices, and the other way round.
use Rattle.std.proofs.Common.{◌≡◌, ℕ, zero, suc, ◌+◌, ◌<◌, ◌≤◌, Bool, true, false, cond, List, [], ◌∷◌, length, get_or, Option, Some, None, Result, Ok, Err, refl, sym, ap, ◌∙◌, subst, arith, eqb, eqb-true, eq-eqb, ne_eqb}
use Rattle.std.specs.List.{AllByRecursion}
use Rattle.std.specs.Option.{option_map}
use Rattle.std.proofs.lemmas.Bool.{cond-false, cond-true}
use Rattle.std.proofs.lemmas.Option.{none-some, same_Some}
use Rattle.kernel_values.specs.declared.rules.BlobCause.{BlobCause}
use Rattle.kernel_values.specs.declared.rules.BlobCause.TheVariants as cause
use Rattle.kernel_values.specs.declared.rules.BlobFault.{BlobFault}
use Rattle.rule_bytes.specs.declared.layout.BlobLayout.{BlobLayout}
use Rattle.kernel_values.specs.declared.rules.RuleTarget.{RuleTarget}
use Rattle.kernel_values.specs.declared.rules.RuleTarget.TheVariants as target_of
use Rattle.rule_bytes.specs.Faults.{◌>>=◌, found_or}
use Rattle.rule_bytes.specs.Parts.{target_size}
use Rattle.rule_bytes.specs.Rules.{Rule, rule_size, target_offset}
use Rattle.rule_bytes.specs.Reading.{told_at}
use Rattle.rule_bytes.specs.Tables.{index_of, moved, places, target_found, targets_found, with_jump, with_target}
use Rattle.rule_bytes.proofs.Results.{bind_at, bind_ok, found_ok, ok_is}
use Rattle.rule_bytes.proofs.OneRule.{rule_least}

-- ---- numbers that rise

abbrev pub IsRising : ℕ → List ℕ → Type 0
IsRising low [] = Unit {0}
IsRising low (x ∷ xs) = (low ≤ x) × IsRising (x + 1) xs

rising_from : (low high : ℕ) (xs : List ℕ) → low ≤ high → IsRising high xs → IsRising low xs
rising_from low high [] le h = tt
rising_from low high (x ∷ xs) le h = (omega (arith, le, h.0), h.1)

pub rising_least : (low : ℕ) (xs : List ℕ) (j : ℕ) → IsRising low xs → j < length xs → low ≤ get_or xs j 0
rising_least low [] j h lt = absurd (omega (arith, lt))
rising_least low (x ∷ xs) zero h lt = h.0
rising_least low (x ∷ xs) (suc j) h lt =
    let l : x + 1 ≤ get_or xs j 0 = rising_least (x + 1) xs j h.1 (omega (arith, lt)) in
    omega (arith, l, h.0)

-- places rise from rule to rule
pub places_rise : (l : BlobLayout) (at : ℕ) (rs : List Rule) → IsRising at (places l at rs)
places_rise l at [] = tt
places_rise l at (r ∷ rs) =
    (omega arith, rising_from (at + 1) (at + rule_size l r) (places l (at + rule_size l r) rs) (omega (arith, rule_least l r)) (places_rise l (at + rule_size l r) rs))

pub length_places : (l : BlobLayout) (at : ℕ) (rs : List Rule) → length (places l at rs) ≡ length rs
length_places l at [] = refl
length_places l at (r ∷ rs) = ap (λ (n : ℕ). suc n) (length_places l (at + rule_size l r) rs)

-- ---- the index of a number

index_step : (o : Option ℕ) (j : ℕ) → option_map (λ i. suc i) o ≡ Some j → (i : ℕ) × (o ≡ Some i) × (j ≡ suc i)
index_step None j h = absurd (none-some j h)
index_step (Some i) j h = (i, refl, sym (same_Some _ _ h))

pub index_found : (n : ℕ) (xs : List ℕ) (j : ℕ) → index_of n xs ≡ Some j → (j < length xs) × (get_or xs j 0 ≡ n)
index_found n [] j h = absurd (none-some j h)
index_found n (x ∷ xs) j h = by_test (eqb x n) refl h (index_found n xs)
  where
    by_test : (b : Bool) → eqb x n ≡ b → cond b (Some zero) (option_map (λ i. suc i) (index_of n xs)) ≡ Some j
        → ((i : ℕ) → index_of n xs ≡ Some i → (i < length xs) × (get_or xs i 0 ≡ n))
        → (j < suc (length xs)) × (get_or (x ∷ xs) j 0 ≡ n)
    by_test true e k others =
        subst (λ (i : ℕ). (i < suc (length xs)) × (get_or (x ∷ xs) i 0 ≡ n)) (same_Some zero j k) (omega arith, eqb-true x n e)
    by_test false e k others =
        let s = index_step (index_of n xs) j k in
        let o = others s.0 s.1 in
        subst (λ (i : ℕ). (i < suc (length xs)) × (get_or (x ∷ xs) i 0 ≡ n)) (sym s.2) (omega (arith, o.0), o.1)

pub index_again : (low : ℕ) (xs : List ℕ) (j : ℕ) → IsRising low xs → j < length xs → index_of (get_or xs j 0) xs ≡ Some j
index_again low [] j h lt = absurd (omega (arith, lt))
index_again low (x ∷ xs) zero h lt = cond-true _ _ _ (eq-eqb x x refl)
index_again low (x ∷ xs) (suc j) h lt =
    let inside : j < length xs = omega (arith, lt) in
    let above : x + 1 ≤ get_or xs j 0 = rising_least (x + 1) xs j h.1 inside in
    cond-false _ _ _ (ne_eqb x (get_or xs j 0) (λ e. absurd (omega (arith, above, e))))
    ∙ ap (λ (o : Option ℕ). option_map (λ i. suc i) o) (index_again (x + 1) xs j h.1 inside)

-- ---- one target

-- an index within
abbrev pub IsIndex : ℕ → RuleTarget → Type 0
IsIndex n target_of.Drop = Unit {0}
IsIndex n target_of.Accept = Unit {0}
IsIndex n target_of.Queue = Unit {0}
IsIndex n target_of.Return = Unit {0}
IsIndex n (target_of.Jump to) = to < n
IsIndex n (target_of.Error bytes) = Unit {0}
IsIndex n (target_of.Mark mark mask) = Unit {0}

abbrev pub HasPlace : List ℕ → RuleTarget → RuleTarget → Type 0
HasPlace ps t u = (with_jump (λ i. get_or ps i 0) u ≡ t) × IsIndex (length ps) u

same_place : (ps : List ℕ) (t u : RuleTarget) → ◌≡◌ {A = Result RuleTarget BlobCause} (Ok t) (Ok u) → HasPlace ps t t → HasPlace ps t u
same_place ps t u e h = subst (λ (x : RuleTarget). HasPlace ps t x) (ok_is t u e) h

pub place_found : (ps : List ℕ) (t u : RuleTarget) → target_found ps t ≡ Ok u → HasPlace ps t u
place_found ps target_of.Drop u h = same_place ps _ u h (refl, tt)
place_found ps target_of.Accept u h = same_place ps _ u h (refl, tt)
place_found ps target_of.Queue u h = same_place ps _ u h (refl, tt)
place_found ps target_of.Return u h = same_place ps _ u h (refl, tt)
place_found ps (target_of.Error bytes) u h = same_place ps _ u h (refl, tt)
place_found ps (target_of.Mark mark mask) u h = same_place ps _ u h (refl, tt)
place_found ps (target_of.Jump to) u h =
    let b = bind_ok (found_or cause.Jump (index_of to ps)) (λ i. Ok (target_of.Jump i)) u h in
    let f = index_found to ps b.0 (found_ok cause.Jump (index_of to ps) b.0 b.1) in
    subst (λ (x : RuleTarget). HasPlace ps (target_of.Jump to) x) (ok_is (target_of.Jump b.0) u b.2)
    (ap (λ (n : ℕ). target_of.Jump n) f.1, f.0)

pub place_again : (low : ℕ) (ps : List ℕ) (u : RuleTarget) → IsRising low ps → IsIndex (length ps) u
    → target_found ps (with_jump (λ i. get_or ps i 0) u) ≡ Ok u
place_again low ps target_of.Drop rise h = refl
place_again low ps target_of.Accept rise h = refl
place_again low ps target_of.Queue rise h = refl
place_again low ps target_of.Return rise h = refl
place_again low ps (target_of.Error bytes) rise h = refl
place_again low ps (target_of.Mark mark mask) rise h = refl
place_again low ps (target_of.Jump to) rise h =
    ap (λ (o : Option ℕ). found_or cause.Jump o >>= λ i. Ok (target_of.Jump i)) (index_again low ps to rise h)

-- ---- all rules

pub told_ok : {A : Type 0} (i : ℕ) (r : Result A BlobCause) (x : A) → told_at i r ≡ Ok x → r ≡ Ok x
told_ok i (Ok y) x h = cc
told_ok i (Err e) x h = absurd cc

-- a rule is told by all but its target
same_rule : (r : Rule) (t : RuleTarget) → t ≡ r.target → with_target r t ≡ r
same_rule r t e = ap (λ (x : RuleTarget). with_target r x) e

pub targets_are : (ps : List ℕ) (i : ℕ) (rs ts : List Rule) → targets_found ps i rs ≡ Ok ts
    → (moved ps ts ≡ rs) × AllByRecursion (λ t. IsIndex (length ps) t.target) ts
unfolding targets_found
targets_are ps i [] ts h = subst (λ (xs : List Rule). (moved ps xs ≡ []) × AllByRecursion (λ t. IsIndex (length ps) t.target) xs) (ok_is [] ts h) (refl, tt)
targets_are ps i (r ∷ rs) ts h =
    let others : Result (List Rule) BlobFault = targets_found ps (suc i) rs in
    let rest : RuleTarget → Result (List Rule) BlobFault = λ t. others >>= λ xs. Ok (with_target r t ∷ xs) in
    let a = bind_ok (told_at i (target_found ps r.target)) rest ts h in
    let b = bind_ok others (λ xs. Ok (with_target r a.0 ∷ xs)) ts a.2 in
    let f = place_found ps r.target a.0 (told_ok i _ a.0 a.1) in
    let g = targets_are ps (suc i) rs b.0 b.1 in
    let first : with_target r (with_jump (λ j. get_or ps j 0) a.0) ≡ r = same_rule r _ f.0 in
    subst (λ (xs : List Rule). (moved ps xs ≡ r ∷ rs) × AllByRecursion (λ t. IsIndex (length ps) t.target) xs) (ok_is (with_target r a.0 ∷ b.0) ts b.2)
    (ap (λ (x : Rule). x ∷ moved ps b.0) first ∙ ap (λ (xs : List Rule). r ∷ xs) g.0, (f.1, g.1))

pub targets_again : (low : ℕ) (ps : List ℕ) (i : ℕ) (ts : List Rule) → IsRising low ps → AllByRecursion (λ t. IsIndex (length ps) t.target) ts
    → targets_found ps i (moved ps ts) ≡ Ok ts
unfolding targets_found
targets_again low ps i [] rise h = refl
targets_again low ps i (t ∷ ts) rise h =
    let first : Result RuleTarget BlobFault = told_at i (target_found ps (with_jump (λ j. get_or ps j 0) t.target)) in
    let others : Result (List Rule) BlobFault = targets_found ps (suc i) (moved ps ts) in
    let e : first ≡ Ok t.target = ap (λ (x : Result RuleTarget BlobCause). told_at i x) (place_again low ps t.target rise h.0) in
    let f : others ≡ Ok ts = targets_again low ps (suc i) ts rise h.1 in
    bind_at first (λ x. others >>= λ xs. Ok (with_target t x ∷ xs)) t.target e
    ∙ bind_at others (λ xs. Ok (t ∷ xs)) ts f

-- sizes, and so places, don't depend on where jumps go
pub size_moved : (l : BlobLayout) (f : ℕ → ℕ) (t : RuleTarget) → target_size l (with_jump f t) ≡ target_size l t
size_moved l f target_of.Drop = refl
size_moved l f target_of.Accept = refl
size_moved l f target_of.Queue = refl
size_moved l f target_of.Return = refl
size_moved l f (target_of.Jump to) = refl
size_moved l f (target_of.Error bytes) = refl
size_moved l f (target_of.Mark mark mask) = refl

pub places_moved : (l : BlobLayout) (at : ℕ) (ps : List ℕ) (rs : List Rule) → places l at (moved ps rs) ≡ places l at rs
places_moved l at ps [] = refl
places_moved l at ps (r ∷ rs) =
    let size : rule_size l (with_target r (with_jump (λ i. get_or ps i 0) r.target)) ≡ rule_size l r =
    ap (λ (n : ℕ). target_offset l r.matches + n) (size_moved l (λ i. get_or ps i 0) r.target) in
    ap (λ (n : ℕ). at ∷ places l (at + n) (moved ps rs)) size
    ∙ ap (λ (xs : List ℕ). at ∷ xs) (places_moved l (at + rule_size l r) ps rs)

pub length_moved : (ps : List ℕ) (rs : List Rule) → length (moved ps rs) ≡ length rs
length_moved ps [] = refl
length_moved ps (r ∷ rs) = ap (λ (n : ℕ). suc n) (length_moved ps rs)
