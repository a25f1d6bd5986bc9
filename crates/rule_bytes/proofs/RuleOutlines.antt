-- The outline of a rule, from what was read of it.
use Rattle.std.proofs.Common.{◌≡◌, ℕ, ◌+◌, ◌<◌, ◌≤◌, not, Bool, true, false, List, length, take, Option, Result, Ok, Err, sym, ap, ◌∙◌, arith, ltb, le-ltb, lt-ltb}
use Rattle.std.specs.Prelude.{⊤}
use Rattle.std.proofs.lemmas.Bool.{cond-true}
use Rattle.kernel_values.specs.declared.rules.BlobCause.{BlobCause}
use Rattle.kernel_values.specs.declared.rules.BlobCause.TheVariants.{Short, Offsets, Flags}
use Rattle.rule_bytes.specs.declared.layout.BlobLayout.{BlobLayout}
use Rattle.rule_bytes.specs.declared.layout.BlobLayout.TheVariants.{Native}
use Rattle.rule_bytes.specs.declared.outlines.RuleOutline.{RuleOutline}
use Rattle.kernel_values.specs.declared.rules.RuleMatch.{RuleMatch}
use Rattle.kernel_values.specs.declared.rules.RuleTarget.{RuleTarget}
use Rattle.rule_bytes.specs.Faults.{◌>>=◌, ◌>>◌, refused_if, told_of}
use Rattle.rule_bytes.specs.Outlines.{outline_of}
use Rattle.rule_bytes.specs.Parts.{target_size}
use Rattle.rule_bytes.specs.Rules.{IsBytes, Rule, has_known_flags, matches_size, rule_size}
use Rattle.rule_bytes.specs.Reading.{are_bad_offsets, matches_at, number_in, rule_at, rule_target, rule_with, short_enough}
use Rattle.rule_bytes.specs.Tables.{jump_in}
use Rattle.rule_bytes.proofs.Results.{bind_at, passed}
use Rattle.rule_bytes.proofs.Loops.{told_fault, told_from}
use Rattle.rule_bytes.proofs.OneRule.{rule_found, rule_least}

abbrev pub Told : BlobLayout → List ℕ → Result RuleOutline BlobCause → Type 0
Told l bs result = result ≡ told_of (outline_of l) (rule_at l bs)

pub told_short : (l : BlobLayout) (bs : List ℕ) → length bs < 112 → Told l bs (Err Short)
unfolding rule_at
told_short l bs h = sym (ap (λ (r : Result Rule BlobCause). told_of (outline_of l) r)
    (ap (λ (r : Result ⊤ BlobCause). r >> rest) (cond-true _ _ _ (lt-ltb (length bs) 112 h))))
  where
    rest : Result Rule BlobCause
    rest = refused_if (are_bad_offsets l (number_in 2 88 bs) (number_in 2 90 bs) (length bs)) Offsets
        >> (refused_if (not (has_known_flags (take 84 bs))) Flags
        >> (matches_at l bs >>= λ ms. rule_target l bs >>= λ t. short_enough (rule_with bs ms t)))

pub told_offsets : (l : BlobLayout) (bs : List ℕ) (to next : ℕ) (b : Bool) → 112 ≤ length bs → to ≡ number_in 2 88 bs → next ≡ number_in 2 90 bs
    → b ≡ are_bad_offsets l to next (length bs) → b ≡ true → Told l bs (Err Offsets)
unfolding rule_at
told_offsets l bs to next b long is_to is_next test bad =
    let e : are_bad_offsets l (number_in 2 88 bs) (number_in 2 90 bs) (length bs) ≡ true =
    ap (λ (x : ℕ). are_bad_offsets l x (number_in 2 90 bs) (length bs)) (sym is_to)
    ∙ ap (λ (x : ℕ). are_bad_offsets l to x (length bs)) (sym is_next) ∙ sym test ∙ bad in
    sym (ap (λ (r : Result Rule BlobCause). told_of (outline_of l) r)
    (passed (ltb (length bs) 112) Short _ (le-ltb _ _ long)
    ∙ ap (λ (r : Result ⊤ BlobCause). r >> (refused_if (not (has_known_flags (take 84 bs))) Flags
    >> (matches_at l bs >>= λ ms. rule_target l bs >>= λ t. short_enough (rule_with bs ms t)))) (cond-true _ _ _ e)))

-- a rule whose head is good
pub record HeadGood (l : BlobLayout) (bs : List ℕ) : Type 0 where
  pub long : 112 ≤ length bs
  pub offsets : are_bad_offsets l (number_in 2 88 bs) (number_in 2 90 bs) (length bs) ≡ false
  pub flags : has_known_flags (take 84 bs) ≡ true

pub head_good : (l : BlobLayout) (bs ip : List ℕ) (to next : ℕ) (b f : Bool) → 112 ≤ length bs → to ≡ number_in 2 88 bs → next ≡ number_in 2 90 bs
    → b ≡ are_bad_offsets l to next (length bs) → b ≡ false → ip ≡ take 84 bs → f ≡ has_known_flags ip → f ≡ true → HeadGood l bs
head_good l bs ip to next b f long is_to is_next test good is_ip flags known = record {
  long = long;
  offsets = ap (λ (x : ℕ). are_bad_offsets l x (number_in 2 90 bs) (length bs)) (sym is_to)
      ∙ ap (λ (x : ℕ). are_bad_offsets l to x (length bs)) (sym is_next) ∙ sym test ∙ good;
  flags = ap (λ (x : List ℕ). has_known_flags x) (sym is_ip) ∙ sym flags ∙ known;
}

pub told_flags : (l : BlobLayout) (bs ip : List ℕ) (to next : ℕ) (b f : Bool) → 112 ≤ length bs → to ≡ number_in 2 88 bs → next ≡ number_in 2 90 bs
    → b ≡ are_bad_offsets l to next (length bs) → b ≡ false → ip ≡ take 84 bs → f ≡ has_known_flags ip → f ≡ false → Told l bs (Err Flags)
unfolding rule_at
told_flags l bs ip to next b f long is_to is_next test good is_ip flags unknown =
    let e : are_bad_offsets l (number_in 2 88 bs) (number_in 2 90 bs) (length bs) ≡ false =
    ap (λ (x : ℕ). are_bad_offsets l x (number_in 2 90 bs) (length bs)) (sym is_to)
    ∙ ap (λ (x : ℕ). are_bad_offsets l to x (length bs)) (sym is_next) ∙ sym test ∙ good in
    let k : not (has_known_flags (take 84 bs)) ≡ true =
    ap not (ap (λ (x : List ℕ). has_known_flags x) (sym is_ip) ∙ sym flags ∙ unknown) in
    sym (ap (λ (r : Result Rule BlobCause). told_of (outline_of l) r)
    (passed (ltb (length bs) 112) Short _ (le-ltb _ _ long)
    ∙ passed (are_bad_offsets l (number_in 2 88 bs) (number_in 2 90 bs) (length bs)) Offsets _ e
    ∙ ap (λ (r : Result ⊤ BlobCause). r >> (matches_at l bs >>= λ ms. rule_target l bs >>= λ t. short_enough (rule_with bs ms t))) (cond-true _ _ _ k)))

rule_behind : (l : BlobLayout) (bs : List ℕ) → HeadGood l bs
    → rule_at l bs ≡ (matches_at l bs >>= λ ms. rule_target l bs >>= λ t. short_enough (rule_with bs ms t))
unfolding rule_at
rule_behind l bs h =
    passed (ltb (length bs) 112) Short _ (le-ltb _ _ h.long)
    ∙ passed (are_bad_offsets l (number_in 2 88 bs) (number_in 2 90 bs) (length bs)) Offsets _ h.offsets
    ∙ passed (not (has_known_flags (take 84 bs))) Flags _ (ap not h.flags)

pub told_matches : (l : BlobLayout) (bs : List ℕ) (e : BlobCause) → HeadGood l bs
    → told_of (matches_size Native) (matches_at l bs) ≡ Err e → Told l bs (Err e)
told_matches l bs e h fault =
    sym (ap (λ (r : Result Rule BlobCause). told_of (outline_of l) r) (rule_behind l bs h
    ∙ ap (λ (r : Result (List RuleMatch) BlobCause). r >>= λ ms. rule_target l bs >>= λ t. short_enough (rule_with bs ms t)) (told_fault (matches_size Native) (matches_at l bs) e fault)))

pub told_target : (l : BlobLayout) (bs : List ℕ) (n : ℕ) (e : BlobCause) → HeadGood l bs
    → told_of (matches_size Native) (matches_at l bs) ≡ Ok n → rule_target l bs ≡ Err e → Told l bs (Err e)
told_target l bs n e h matches fault =
    let m = told_from (matches_size Native) (matches_at l bs) n matches in
    sym (ap (λ (r : Result Rule BlobCause). told_of (outline_of l) r) (rule_behind l bs h
    ∙ bind_at (matches_at l bs) (λ ms. rule_target l bs >>= λ t. short_enough (rule_with bs ms t)) m.0 m.1
    ∙ ap (λ (r : Result RuleTarget BlobCause). r >>= λ t. short_enough (rule_with bs m.0 t)) fault))

rule_both : (l : BlobLayout) (bs : List ℕ) (ms : List RuleMatch) (t : RuleTarget) → HeadGood l bs
    → matches_at l bs ≡ Ok ms → rule_target l bs ≡ Ok t → rule_at l bs ≡ short_enough (rule_with bs ms t)
rule_both l bs ms t h matches target =
    rule_behind l bs h
    ∙ bind_at (matches_at l bs) (λ xs. rule_target l bs >>= λ u. short_enough (rule_with bs xs u)) ms matches
    ∙ bind_at (rule_target l bs) (λ u. short_enough (rule_with bs ms u)) t target

pub told_long : (l : BlobLayout) (bs : List ℕ) (n : ℕ) (t : RuleTarget) → HeadGood l bs
    → told_of (matches_size Native) (matches_at l bs) ≡ Ok n → rule_target l bs ≡ Ok t → 65535 < (112 + n) + target_size Native t
    → Told l bs (Err Offsets)
told_long l bs n t h matches target long =
    let m = told_from (matches_size Native) (matches_at l bs) n matches in
    let over : 65535 < rule_size Native (rule_with bs m.0 t) = omega (arith, m.2, long) in
    sym (ap (λ (r : Result Rule BlobCause). told_of (outline_of l) r) (rule_both l bs m.0 t h m.1 target
    ∙ ap (λ (r : Result ⊤ BlobCause). r >> Ok (rule_with bs m.0 t)) (cond-true _ _ _ (lt-ltb 65535 (rule_size Native (rule_with bs m.0 t)) over))))

-- what a rule without fault tells
pub record Outlined (l : BlobLayout) (bs : List ℕ) (o : RuleOutline) : Type 0 where
  pub told : Told l bs (Ok o)
  pub within : o.size ≤ length bs
  pub least : 148 ≤ o.size

pub outlined : (l : BlobLayout) (bs : List ℕ) (n next native : ℕ) (jump : Option ℕ) (t : RuleTarget) → IsBytes bs → HeadGood l bs
    → told_of (matches_size Native) (matches_at l bs) ≡ Ok n → rule_target l bs ≡ Ok t → native ≡ (112 + n) + target_size Native t
    → native ≤ 65535 → next ≡ number_in 2 90 bs → jump ≡ jump_in t
    → Outlined l bs (record { size = next; native_size = native; jump = jump })
outlined l bs n next native jump t fits h matches target is_native short is_next is_jump =
    let m = told_from (matches_size Native) (matches_at l bs) n matches in
    let r : Rule = rule_with bs m.0 t in
    let size : rule_size Native r ≡ native = omega (arith, m.2, is_native) in
    let under : rule_size Native r ≤ 65535 = omega (arith, size, short) in
    let read : rule_at l bs ≡ Ok r =
    rule_both l bs m.0 t h m.1 target ∙ passed (ltb 65535 (rule_size Native r)) Offsets (Ok r) (le-ltb _ _ under) in
    let f = rule_found l bs r fits read in
    let here : rule_size l r ≡ next = f.ends ∙ sym is_next in
    let same : outline_of l r ≡ record { size = next; native_size = native; jump = jump } =
    ap (λ (x : ℕ). record { size = x; native_size = rule_size Native r; jump = jump_in t }) here
    ∙ ap (λ (x : ℕ). record { size = next; native_size = x; jump = jump_in t }) size
    ∙ ap (λ (x : Option ℕ). record { size = next; native_size = native; jump = x }) (sym is_jump) in
    record {
      told = sym (ap (λ (x : Result Rule BlobCause). told_of (outline_of l) x) read ∙ ap (λ (x : RuleOutline). Ok x) same);
      within = omega (arith, here, f.within);
      least = omega (arith, here, rule_least l r);
    }
