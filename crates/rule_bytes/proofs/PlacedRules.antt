-- The rule at the place of an index.
use Rattle.std.proofs.Common.{◌≡◌, ℕ, zero, suc, ◌+◌, ◌<◌, List, [], ◌∷◌, length, get_or, drop, drop-drop, Result, Ok, Err, refl, sym, ap, ◌∙◌, subst, arith}
use Rattle.kernel_values.specs.declared.rules.BlobCause.{BlobCause}
use Rattle.rule_bytes.specs.declared.layout.BlobLayout.{BlobLayout}
use Rattle.rule_bytes.specs.Rules.{Rule, rule_size}
use Rattle.rule_bytes.specs.Reading.{rule_at, rules_past}
use Rattle.rule_bytes.specs.Tables.{no_rule, places}
use Rattle.rule_bytes.proofs.Entries.{rules_end, rules_fault, rules_step}
use Rattle.rule_bytes.proofs.Results.{bind_ok, ok_is}

place_shift : (l : BlobLayout) (at n : ℕ) (rs : List Rule) (i : ℕ) → i < length rs → get_or (places l (at + n) rs) i 0 ≡ at + get_or (places l n rs) i 0
place_shift l at n [] i lt = absurd (omega (arith, lt))
place_shift l at n (r ∷ rs) zero lt = refl
place_shift l at n (r ∷ rs) (suc i) lt =
    let e : (at + n) + rule_size l r ≡ at + (n + rule_size l r) = omega arith in
    ap (λ (k : ℕ). get_or (places l k rs) i 0) e ∙ place_shift l at (n + rule_size l r) rs i (omega (arith, lt))

-- the rule in front of bytes that are read, and those behind it
record Front (l : BlobLayout) (index : ℕ) (bs : List ℕ) (rs : List Rule) : Type 0 where
  rule : Rule
  others : List Rule
  read : rule_at l bs ≡ Ok rule
  behind : rules_past l (index + 1) 0 (drop (rule_size l rule) bs) ≡ Ok others
  both : rule ∷ others ≡ rs

front_by : (l : BlobLayout) (index : ℕ) (bs : List ℕ) (rs : List Rule) (r : Result Rule BlobCause) → rule_at l bs ≡ r → 0 < length bs
    → rules_past l index 0 bs ≡ Ok rs → Front l index bs rs
front_by l index bs rs (Ok r) e some h =
    let b = bind_ok (rules_past l (index + 1) 0 (drop (rule_size l r) bs)) (λ xs. Ok (r ∷ xs)) rs (sym (rules_step l index bs r some e) ∙ h) in
    record { rule = r; others = b.0; read = e; behind = b.1; both = ok_is (r ∷ b.0) rs b.2 }
front_by l index bs rs (Err c) e some h = absurd (let k = sym (rules_fault l index bs c some e) ∙ h in cc)

front : (l : BlobLayout) (index : ℕ) (bs : List ℕ) (rs : List Rule) → 0 < length rs → rules_past l index 0 bs ≡ Ok rs → Front l index bs rs
front l index [] rs some h =
    let e : [] ≡ rs = ok_is [] rs (sym (rules_end l index [] refl) ∙ h) in
    absurd (omega (arith, some, ap (λ (xs : List Rule). length xs) e))
front l index (b ∷ bs) rs some h = front_by l index (b ∷ bs) rs (rule_at l (b ∷ bs)) refl (omega arith) h

pub rule_there : (i : ℕ) (l : BlobLayout) (index : ℕ) (bs : List ℕ) (rs : List Rule) → rules_past l index 0 bs ≡ Ok rs → i < length rs
    → rule_at l (drop (get_or (places l 0 rs) i 0) bs) ≡ Ok (get_or rs i no_rule)
rule_there zero l index bs rs h lt =
    let f = front l index bs rs lt h in
    subst (λ (xs : List Rule). rule_at l (drop (get_or (places l 0 xs) 0 0) bs) ≡ Ok (get_or xs 0 no_rule)) f.both f.read
rule_there (suc i) l index bs rs h lt =
    let f = front l index bs rs (omega (arith, lt)) h in
    let size : ℕ = rule_size l f.rule in
    let count : suc (length f.others) ≡ length rs = ap (λ (xs : List Rule). length xs) f.both in
    let inside : i < length f.others = omega (arith, lt, count) in
    let at : get_or (places l (0 + size) f.others) i 0 ≡ size + get_or (places l 0 f.others) i 0 =
    let e : 0 + size ≡ size + 0 = omega arith in
    ap (λ (k : ℕ). get_or (places l k f.others) i 0) e ∙ place_shift l size 0 f.others i inside in
    let there : drop (get_or (places l (0 + size) f.others) i 0) bs ≡ drop (get_or (places l 0 f.others) i 0) (drop size bs) =
    ap (λ (k : ℕ). drop k bs) at ∙ sym (drop-drop (get_or (places l 0 f.others) i 0) size bs) in
    subst (λ (xs : List Rule). rule_at l (drop (get_or (places l 0 xs) (suc i) 0) bs) ≡ Ok (get_or xs (suc i) no_rule)) f.both
    (ap (λ (xs : List ℕ). rule_at l xs) there ∙ rule_there i l (index + 1) (drop size bs) f.others f.behind inside)
