-- Matches and rules one after another, as loops read them.
use Rattle.std.proofs.Common.{◌≡◌, ℕ, zero, suc, pred, ◌+◌, ◌-◌, ◌*◌, ◌<◌, ◌≤◌, List, [], ◌∷◌, length, take, drop, Result, Ok, Err, refl, sym, ap, ◌∙◌, arith}
use Rattle.std.proofs.lemmas.List.{take_rest}
use Rattle.kernel_values.specs.declared.rules.BlobCause.{BlobCause}
use Rattle.rule_bytes.specs.declared.layout.BlobLayout.{BlobLayout}
use Rattle.rule_bytes.specs.declared.layout.BlobLayout.TheVariants.{Ia32, Arm, Native}
use Rattle.rule_bytes.specs.declared.parts.MatchKind.{MatchKind}
use Rattle.rule_bytes.specs.declared.parts.MatchKind.TheVariants as matching
use Rattle.kernel_values.specs.declared.rules.RuleMatch.{RuleMatch}
use Rattle.rule_bytes.specs.Faults.{◌>>=◌, told_of}
use Rattle.rule_bytes.specs.Parts.{match_front, match_kind, match_size, size_of}
use Rattle.rule_bytes.specs.Rules.{matches_size}
use Rattle.rule_bytes.specs.Reading.{match_at, matches_past}
use Rattle.rule_bytes.proofs.Results.{bind_at, bind_ok, ok_is}
use Rattle.rule_bytes.proofs.Matches.{match_least, past_one}

-- what is passed over doesn't count
matches_dropped : (l : BlobLayout) (ip : List ℕ) (n : ℕ) (bs : List ℕ) → matches_past l ip n bs ≡ matches_past l ip 0 (drop n bs)
unfolding matches_past
matches_dropped l ip zero bs = refl
matches_dropped l ip (suc n) [] = refl
matches_dropped l ip (suc n) (b ∷ bs) = matches_dropped l ip n bs

matches_step : (l : BlobLayout) (ip bs : List ℕ) (m : RuleMatch) → 0 < length bs → match_at l ip bs ≡ Ok m
    → matches_past l ip 0 bs ≡ (matches_past l ip 0 (drop (match_size l m) bs) >>= λ ms. Ok (m ∷ ms))
unfolding matches_past
matches_step l ip [] m some h = absurd (omega (arith, some))
matches_step l ip (b ∷ bs) m some h =
    let least : 41 ≤ match_size l m = match_least l m in
    bind_at (match_at l ip (b ∷ bs)) (λ x. matches_past l ip (pred (match_size l x)) bs >>= λ ms. Ok (x ∷ ms)) m h
    ∙ ap (λ (r : Result (List RuleMatch) BlobCause). r >>= λ ms. Ok (m ∷ ms))
    (matches_dropped l ip (pred (match_size l m)) bs ∙ ap (λ (ys : List ℕ). matches_past l ip 0 ys) (past_one (match_size l m) b bs (omega (arith, least))))

pub matches_fault : (l : BlobLayout) (ip bs : List ℕ) (e : BlobCause) → 0 < length bs → match_at l ip bs ≡ Err e → matches_past l ip 0 bs ≡ Err e
unfolding matches_past
matches_fault l ip [] e some h = absurd (omega (arith, some))
matches_fault l ip (b ∷ bs) e some h =
    ap (λ (r : Result RuleMatch BlobCause). r >>= λ x. matches_past l ip (pred (match_size l x)) bs >>= λ ms. Ok (x ∷ ms)) h

-- native bytes of the matches so far and of those that are left
abbrev pub native_with : ℕ → Result (List RuleMatch) BlobCause → Result ℕ BlobCause
native_with size read = told_of (λ ms. size + matches_size Native ms) read

native_more : (size : ℕ) (m : RuleMatch) (read : Result (List RuleMatch) BlobCause)
    → native_with size (read >>= λ ms. Ok (m ∷ ms)) ≡ native_with (size + match_size Native m) read
native_more size m (Ok ms) = ap (λ (n : ℕ). Ok n) (let e : size + (match_size Native m + matches_size Native ms) ≡ (size + match_size Native m) + matches_size Native ms = omega arith in e)
native_more size m (Err e) = refl

pub native_step : (l : BlobLayout) (ip bs : List ℕ) (m : RuleMatch) (size : ℕ) (total : Result ℕ BlobCause) → 0 < length bs
    → match_at l ip bs ≡ Ok m → native_with size (matches_past l ip 0 bs) ≡ total
    → native_with (size + match_size Native m) (matches_past l ip 0 (drop (match_size l m) bs)) ≡ total
native_step l ip bs m size total some h so_far =
    sym (native_more size m (matches_past l ip 0 (drop (match_size l m) bs)))
    ∙ ap (λ (r : Result (List RuleMatch) BlobCause). native_with size r) (sym (matches_step l ip bs m some h)) ∙ so_far

pub native_end : (l : BlobLayout) (ip bs : List ℕ) (size : ℕ) (total : Result ℕ BlobCause) → length bs ≡ 0
    → native_with size (matches_past l ip 0 bs) ≡ total → Ok size ≡ total
unfolding matches_past
native_end l ip [] size total none so_far = ap (λ (n : ℕ). Ok n) (let e : size ≡ size + 0 = omega arith in e) ∙ so_far
native_end l ip (b ∷ bs) size total none so_far = absurd (omega (arith, none))

pub native_fault : (l : BlobLayout) (ip bs : List ℕ) (e : BlobCause) (size : ℕ) (total : Result ℕ BlobCause) → 0 < length bs
    → match_at l ip bs ≡ Err e → native_with size (matches_past l ip 0 bs) ≡ total → Err e ≡ total
native_fault l ip bs e size total some h so_far =
    sym (ap (λ (r : Result (List RuleMatch) BlobCause). native_with size r) (matches_fault l ip bs e some h)) ∙ so_far

kind_twice : (l : BlobLayout) (k : MatchKind) → size_of Native (match_front k) ≤ 2 * size_of l (match_front k)
kind_twice Ia32 matching.Tcp = omega arith
kind_twice Ia32 matching.Udp = omega arith
kind_twice Ia32 matching.Mark = omega arith
kind_twice Ia32 matching.Limit = omega arith
kind_twice Arm matching.Tcp = omega arith
kind_twice Arm matching.Udp = omega arith
kind_twice Arm matching.Mark = omega arith
kind_twice Arm matching.Limit = omega arith
kind_twice Native k = omega arith

-- a native match has at most twice the bytes
pub native_twice : (l : BlobLayout) (m : RuleMatch) → match_size Native m ≤ 2 * match_size l m
native_twice l m = kind_twice l (match_kind m)

pub told_from : {A B E : Type 0} (f : A → B) (r : Result A E) (y : B) → told_of f r ≡ Ok y → (x : A) × (r ≡ Ok x) × (f x ≡ y)
told_from f (Ok x) y h = (x, refl, cc)
told_from f (Err e) y h = absurd cc

pub told_fault : {A B E : Type 0} (f : A → B) (r : Result A E) (e : E) → told_of f r ≡ Err e → r ≡ Err e
told_fault f (Ok x) e h = absurd cc
told_fault f (Err d) e h = cc

-- no match so far
pub native_begin : (read : Result (List RuleMatch) BlobCause) → native_with 0 read ≡ told_of (matches_size Native) read
native_begin (Ok ms) = ap (λ (n : ℕ). Ok n) (let e : 0 + matches_size Native ms ≡ matches_size Native ms = omega arith in e)
native_begin (Err e) = refl

-- the same as a loop writes it
pub native_turn : (l : BlobLayout) (ip bs : List ℕ) (m : RuleMatch) (size n k : ℕ) (total : Result ℕ BlobCause) → 0 < length bs
    → match_at l ip bs ≡ Ok m → n ≡ match_size Native m → k ≡ match_size l m → native_with size (matches_past l ip 0 bs) ≡ total
    → native_with (size + n) (matches_past l ip 0 (take (length bs - k) (drop k bs))) ≡ total
native_turn l ip bs m size n k total some h native here so_far =
    ap (λ (ys : List ℕ). native_with (size + n) (matches_past l ip 0 ys)) (take_rest bs k)
    ∙ ap (λ (x : ℕ). native_with (size + x) (matches_past l ip 0 (drop k bs))) native
    ∙ ap (λ (x : ℕ). native_with (size + match_size Native m) (matches_past l ip 0 (drop x bs))) here
    ∙ native_step l ip bs m size total some h so_far

-- ---- matches that were read before, put one after another

matches_next_by : (l : BlobLayout) (ip bs : List ℕ) (left : List RuleMatch) (first : Result RuleMatch BlobCause) → 0 < length bs
    → match_at l ip bs ≡ first → matches_past l ip 0 bs ≡ Ok left
    → (m : RuleMatch) × (others : List RuleMatch) × (first ≡ Ok m) × (matches_past l ip 0 (drop (match_size l m) bs) ≡ Ok others) × (left ≡ m ∷ others)
matches_next_by l ip bs left (Err e) some is read = absurd (let f = matches_fault l ip bs e some is in cc)
matches_next_by l ip bs left (Ok m) some is read =
    let b = bind_ok (matches_past l ip 0 (drop (match_size l m) bs)) (λ ms. Ok (m ∷ ms)) left (sym (matches_step l ip bs m some is) ∙ read) in
    (m, b.0, refl, b.1, sym (ok_is (m ∷ b.0) left b.2))

-- the next of them
pub record NextMatch (l : BlobLayout) (ip bs : List ℕ) (left : List RuleMatch) : Type 0 where
  pub first : RuleMatch
  pub others : List RuleMatch
  pub read : match_at l ip bs ≡ Ok first
  pub behind : matches_past l ip 0 (drop (match_size l first) bs) ≡ Ok others
  pub both : left ≡ first ∷ others

pub matches_next : (l : BlobLayout) (ip bs : List ℕ) (left : List RuleMatch) → 0 < length bs → matches_past l ip 0 bs ≡ Ok left → NextMatch l ip bs left
matches_next l ip bs left some read =
    let n = matches_next_by l ip bs left (match_at l ip bs) some refl read in
    record { first = n.0; others = n.1; read = n.2; behind = n.3; both = n.4 }
