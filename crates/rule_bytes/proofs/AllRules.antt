-- All rules of a blob, by one induction over its bytes.
use Rattle.std.proofs.Common.{◌≡◌, ℕ, zero, suc, pred, ◌+◌, ◌≤◌, List, [], ◌∷◌, length, drop, Result, Ok, Err, refl, sym, ap, ◌∙◌, subst, arith, length-append, length-drop}
use Rattle.std.specs.List.{AllByRecursion}
use Rattle.kernel_values.specs.declared.rules.BlobCause.{BlobCause}
use Rattle.kernel_values.specs.declared.rules.BlobFault.{BlobFault}
use Rattle.rule_bytes.specs.declared.layout.BlobLayout.{BlobLayout}
use Rattle.rule_bytes.specs.Faults.{◌>>=◌}
use Rattle.rule_bytes.specs.Spelling.{Begins, Spells}
use Rattle.rule_bytes.specs.Maps.{all_sizes}
use Rattle.rule_bytes.specs.Rules.{IsBytes, IsRule, Rule, rule_size, rule_spelling, rules_spelling}
use Rattle.rule_bytes.specs.Reading.{rule_at, rules_in, rules_past, told_at}
use Rattle.rule_bytes.proofs.Results.{bind_at, bind_ok, ok_is}
use Rattle.rule_bytes.proofs.Spellings.{begins_join, begins_split}
use Rattle.rule_bytes.proofs.Matches.{drop_nil, past_one}
use Rattle.rule_bytes.proofs.OneRule.{RuleFound, length_rule, rule_again, rule_found, rule_least}

told_ok : {A : Type 0} (i : ℕ) (r : Result A BlobCause) (x : A) → told_at i r ≡ Ok x → r ≡ Ok x
told_ok i (Ok y) x h = cc
told_ok i (Err e) x h = absurd cc

pub record RulesFound (l : BlobLayout) (bs : List ℕ) (rs : List Rule) : Type 0 where
  pub spelled : Begins bs (rules_spelling l rs)
  pub each : AllByRecursion IsRule rs
  pub size : all_sizes l rs ≡ length bs

none_found : (l : BlobLayout) (bs : List ℕ) (rs : List Rule) → length bs ≡ 0 → rs ≡ [] → RulesFound l bs rs
unfolding Begins
none_found l bs rs len e = subst (λ (xs : List Rule). RulesFound l bs xs) (sym e) (record { spelled = tt; each = tt; size = sym len })

with_rule : (l : BlobLayout) (bs : List ℕ) (r : Rule) (rs : List Rule) → RuleFound l bs r → RulesFound l (drop (rule_size l r) bs) rs
    → RulesFound l bs (r ∷ rs)
with_rule l bs r rs f g =
    let len : length (rule_spelling l r) ≡ rule_size l r = length_rule l r f.rule in
    record {
      spelled = begins_join bs (rule_spelling l r) (rules_spelling l rs) f.spelled
          (subst (λ (n : ℕ). Begins (drop n bs) (rules_spelling l rs)) (sym len) g.spelled);
      each = (f.rule, g.each);
      size = omega (arith, g.size, f.within, length-drop (rule_size l r) bs);
    }

pub rules_found : (l : BlobLayout) (i n : ℕ) (bs : List ℕ) (rs : List Rule) → IsBytes bs → rules_past l i n bs ≡ Ok rs → RulesFound l (drop n bs) rs
unfolding rules_past
rules_found l i n [] rs fits h = none_found l (drop n []) rs (ap (λ (ys : List ℕ). length ys) (drop_nil n)) (sym (ok_is [] rs h))
rules_found l i (suc n) (b ∷ bs) rs fits h = rules_found l i n bs rs (λ k. fits (suc k)) h
rules_found l i zero (b ∷ bs) rs fits h =
    let others : Rule → Result (List Rule) BlobFault = λ r. rules_past l (i + 1) (pred (rule_size l r)) bs in
    let rest : Rule → Result (List Rule) BlobFault = λ r. others r >>= λ xs. Ok (r ∷ xs) in
    let a = bind_ok (told_at i (rule_at l (b ∷ bs))) rest rs h in
    let c = bind_ok (others a.0) (λ xs. Ok (a.0 ∷ xs)) rs a.2 in
    let f = rule_found l (b ∷ bs) a.0 fits (told_ok i _ a.0 a.1) in
    let least : 148 ≤ rule_size l a.0 = rule_least l a.0 in
    let g = rules_found l (i + 1) (pred (rule_size l a.0)) bs c.0 (λ k. fits (suc k)) c.1 in
    let g' : RulesFound l (drop (rule_size l a.0) (b ∷ bs)) c.0 =
    subst (λ (ys : List ℕ). RulesFound l ys c.0) (past_one (rule_size l a.0) b bs (omega (arith, least))) g in
    subst (λ (xs : List Rule). RulesFound l (b ∷ bs) xs) (ok_is (a.0 ∷ c.0) rs c.2) (with_rule l (b ∷ bs) a.0 c.0 f g')

none_again : (l : BlobLayout) (rs : List Rule) → all_sizes l rs ≡ 0 → rs ≡ []
none_again l [] h = refl
none_again l (r ∷ rs) h = absurd (omega (arith, h, rule_least l r))

pub rules_again : (l : BlobLayout) (i n : ℕ) (bs : List ℕ) (rs : List Rule) → AllByRecursion IsRule rs
    → Begins (drop n bs) (rules_spelling l rs) → all_sizes l rs ≡ length (drop n bs) → rules_past l i n bs ≡ Ok rs
unfolding rules_past
rules_again l i n [] rs each h size =
    ap (λ (xs : List Rule). Ok xs) (sym (none_again l rs (size ∙ ap (λ (ys : List ℕ). length ys) (drop_nil n))))
rules_again l i (suc n) (b ∷ bs) rs each h size = rules_again l i n bs rs each h size
rules_again l i zero (b ∷ bs) [] each h size = absurd (omega (arith, size))
rules_again l i zero (b ∷ bs) (r ∷ rs) each h size =
    let others : Rule → Result (List Rule) BlobFault = λ x. rules_past l (i + 1) (pred (rule_size l x)) bs in
    let rest : Rule → Result (List Rule) BlobFault = λ x. others x >>= λ xs. Ok (x ∷ xs) in
    let s = begins_split (b ∷ bs) (rule_spelling l r) (rules_spelling l rs) h in
    let first : told_at i (rule_at l (b ∷ bs)) ≡ Ok r = ap (λ (x : Result Rule BlobCause). told_at i x) (rule_again l (b ∷ bs) r each.0 s.0) in
    let len : length (rule_spelling l r) ≡ rule_size l r = length_rule l r each.0 in
    let least : 148 ≤ rule_size l r = rule_least l r in
    let step : drop (pred (rule_size l r)) bs ≡ drop (rule_size l r) (b ∷ bs) = past_one (rule_size l r) b bs (omega (arith, least)) in
    let behind : Begins (drop (pred (rule_size l r)) bs) (rules_spelling l rs) =
    subst (λ (ys : List ℕ). Begins ys (rules_spelling l rs)) (ap (λ (k : ℕ). drop k (b ∷ bs)) len ∙ sym step) s.1 in
    let left : all_sizes l rs ≡ length (drop (pred (rule_size l r)) bs) =
    omega (arith, size, ap (λ (ys : List ℕ). length ys) step, length-drop (rule_size l r) (b ∷ bs)) in
    let last : others r ≡ Ok rs = rules_again l (i + 1) (pred (rule_size l r)) bs rs each.1 behind left in
    bind_at (told_at i (rule_at l (b ∷ bs))) rest r first ∙ bind_at (others r) (λ xs. Ok (r ∷ xs)) rs last

length_rules : (l : BlobLayout) (rs : List Rule) → AllByRecursion IsRule rs → length (rules_spelling l rs) ≡ all_sizes l rs
length_rules l [] each = refl
length_rules l (r ∷ rs) each =
    length-append (rule_spelling l r) (rules_spelling l rs) ∙ omega (arith, length_rule l r each.0, length_rules l rs each.1)

-- what was read is spelled so
pub is_spelled : (l : BlobLayout) (bs : List ℕ) (rs : List Rule) → IsBytes bs → rules_in l bs ≡ Ok rs
    → Spells bs (rules_spelling l rs) × AllByRecursion IsRule rs
is_spelled l bs rs fits h =
    let f = rules_found l 0 0 bs rs fits h in
    ((f.spelled, sym f.size ∙ sym (length_rules l rs f.each)), f.each)

-- what is spelled so is read
pub is_read : (l : BlobLayout) (bs : List ℕ) (rs : List Rule) → AllByRecursion IsRule rs → Spells bs (rules_spelling l rs)
    → rules_in l bs ≡ Ok rs
is_read l bs rs each s = rules_again l 0 0 bs rs each s.0 (sym (length_rules l rs each) ∙ sym s.1)
