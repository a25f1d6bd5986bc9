-- How far a range goes on, and where its text ends.
use Rattle.std.proofs.Common.{◌≡◌, ◌≢◌, ℕ, zero, suc, ◌+◌, ◌-◌, ◌^◌, ◌<◌, ◌≤◌, Bool, true, false, ltb, List, [], ◌∷◌, length, get_or, refl, sym, ap, subst, ◌∙◌, inl, inr, arith}
use Rattle.std.specs.Prelude.{min, nat_le, ◌&&◌, Option, Some, None, MatchOption, IfSome, Result, Ok, Err}
use Rattle.std.proofs.lemmas.Bool.{cases_Bool, cases_eq, cases_lt, eq-eqb, ne_eqb, lt-ltb, le-ltb, le-leb, lt-leb}
use Rattle.user_memory.specs.declared.text.TextFault.{TextFault}
use Rattle.user_memory.specs.declared.text.TextFault.TheVariants.{Fault, TooLong}
use Rattle.user_memory.specs.Pages.{PageState, is_mapped, byte_at}
use Rattle.user_memory.specs.Memory.{all_pass, list_from, bytes_at}
use Rattle.user_memory.proofs.Ranges.{all_from, one_fails, length-list_from}
use Rattle.user_memory.specs.Prefixes.{passing, text_after, text_at, HasNoZero}

-- the addresses that pass before the first that doesn't
pub passing_all : (n : ℕ) (test : ℕ → Bool) (a : ℕ) → ((b : ℕ) → a ≤ b → b < a + n → test b ≡ true) → n ≡ passing test a n
unfolding passing
passing_all zero test a h = refl
passing_all (suc n) test a h = rw (h a (omega arith) (omega arith)) (ap suc (passing_all n test (a + 1) (λ b lo hi. h b (omega arith) (omega arith))))

pub passing_ends : (k n : ℕ) (test : ℕ → Bool) (a : ℕ) → k < n → ((b : ℕ) → a ≤ b → b < a + k → test b ≡ true) → test (a + k) ≡ false → k ≡ passing test a n
unfolding passing
passing_ends zero zero test a lt h fails = absurd (omega arith)
passing_ends zero (suc n) test a lt h fails =
    let here : a + 0 ≡ a = omega arith in
    let fails_here : test a ≡ false = subst (λ (b : ℕ). test b ≡ false) here fails in
    rw fails_here refl
passing_ends (suc k) zero test a lt h fails = absurd (omega arith)
passing_ends (suc k) (suc n) test a lt h fails =
    let next : a + suc k ≡ (a + 1) + k = omega arith in
    rw (h a (omega arith) (omega arith)) (ap suc (passing_ends k n test (a + 1) (omega arith) (λ b lo hi. h b (omega arith) (omega arith)) (subst (λ (b : ℕ). test b ≡ false) next fails)))

passing_le : (n : ℕ) (test : ℕ → Bool) (a : ℕ) → passing test a n ≤ n
unfolding passing
passing_le zero test a = omega arith
passing_le (suc n) test a =
    let rest = passing_le n test (a + 1) in
    elim (cases_Bool (test a)) [ inl e ↦ rw e (omega arith) | inr e ↦ rw e (omega arith) ]

passing_passes : (n : ℕ) (test : ℕ → Bool) (a b : ℕ) → a ≤ b → b < a + passing test a n → test b ≡ true
unfolding passing
passing_passes zero test a b lo hi = absurd (omega arith)
passing_passes (suc n) test a b lo hi =
    elim (cases_Bool (test a)) [
      | inl e ↦ elim (cases_eq a b) [
        | inl same ↦ subst (λ (x : ℕ). test x ≡ true) same e
        | inr other ↦ let below = rw e at hi in passing_passes n test (a + 1) b (omega arith) (omega arith)
      ]
      | inr e ↦ let below = rw e at hi in absurd (omega arith)
    ]

passing_stops : (n : ℕ) (test : ℕ → Bool) (a : ℕ) → passing test a n < n → test (a + passing test a n) ≡ false
unfolding passing
passing_stops zero test a lt = absurd (omega arith)
passing_stops (suc n) test a lt =
    elim (cases_Bool (test a)) [
      | inl e ↦
          let below = rw e at lt in
          let next : a + suc (passing test (a + 1) n) ≡ (a + 1) + passing test (a + 1) n = omega arith in
          rw (e, next) (passing_stops n test (a + 1) (omega arith))
      | inr e ↦ let here : a + 0 ≡ a = omega arith in rw (e, here) e
    ]

pub prefix_fits : (ps : List PageState) (a n r : ℕ) → r ≡ passing (is_mapped ps) a (min n (2 ^ 32 - a)) → r ≤ n
prefix_fits ps a n r is =
    let bound = passing_le (min n (2 ^ 32 - a)) (is_mapped ps) a in
    omega arith

-- whether a range passes, by its prefix
pub short_range : (test : ℕ → Bool) (a n r : ℕ) → r ≡ passing test a (min n (2 ^ 32 - a)) → r < n → (nat_le (a + n) (2 ^ 32) && all_pass test a n) ≡ false
short_range test a n r is less =
    elim (cases_lt (2 ^ 32) (a + n)) [
      | inl past ↦ rw (lt-leb (a + n) (2 ^ 32) past) refl
      | inr fits ↦
          let count : min n (2 ^ 32 - a) ≡ n = omega arith in
          let stops : test (a + r) ≡ false = rw is (passing_stops (min n (2 ^ 32 - a)) test a (omega arith)) in
          rw (le-leb (a + n) (2 ^ 32) fits, one_fails n test a (a + r) (omega arith) (omega arith) stops) refl
    ]

pub whole_range : (test : ℕ → Bool) (a n r : ℕ) → a ≤ 2 ^ 32 → r ≡ passing test a (min n (2 ^ 32 - a)) → n ≤ r → (nat_le (a + n) (2 ^ 32) && all_pass test a n) ≡ true
whole_range test a n r low is all =
    let bound = passing_le (min n (2 ^ 32 - a)) test a in
    rw (le-leb (a + n) (2 ^ 32) (omega arith), all_from n test a (λ b lo hi. passing_passes (min n (2 ^ 32 - a)) test a b lo (omega arith))) refl

-- a text that begins with bytes other than zero
text_more : (ps : List PageState) (a n : ℕ) → a < 2 ^ 32 → is_mapped ps a ≡ true → byte_at ps a ≢ 0 → text_at ps a (suc n) ≡ text_after (byte_at ps a) (text_at ps (a + 1) n)
unfolding text_at
text_more ps a n low mapped some = rw (lt-ltb a (2 ^ 32) low, mapped, ne_eqb (byte_at ps a) 0 some) refl

-- bytes in front of a text
abbrev text_behind : List ℕ → Result (List ℕ) TextFault → Result (List ℕ) TextFault
text_behind [] rest = rest
text_behind (byte ∷ bytes) rest = text_after byte (text_behind bytes rest)

behind_ok : (bytes : List ℕ) → text_behind bytes (Ok []) ≡ Ok bytes
behind_ok [] = refl
behind_ok (byte ∷ bytes) = ap (text_after byte) (behind_ok bytes)

behind_err : (bytes : List ℕ) (reason : TextFault) → text_behind bytes (Err reason) ≡ Err reason
behind_err [] reason = refl
behind_err (byte ∷ bytes) reason = ap (text_after byte) (behind_err bytes reason)

-- n bytes that can be read, none of them zero
text_skip : (k : ℕ) (ps : List PageState) (a n : ℕ) → a + k ≤ 2 ^ 32 → ((b : ℕ) → a ≤ b → b < a + k → is_mapped ps b ≡ true) → HasNoZero ps a k → text_at ps a (k + n) ≡ text_behind (bytes_at ps a k) (text_at ps (a + k) n)
unfolding list_from
text_skip zero ps a n low mapped some =
    let count : 0 + n ≡ n = omega arith in
    let at : a + 0 ≡ a = omega arith in
    rw (count, at) refl
text_skip (suc k) ps a n low mapped some =
    let count : suc k + n ≡ suc (k + n) = omega arith in
    let at : a + suc k ≡ (a + 1) + k = omega arith in
    let here : a + 0 ≡ a = omega arith in
    let first : byte_at ps a ≢ 0 = subst (λ (b : ℕ). byte_at ps b ≢ 0) here (some 0 (omega arith)) in
    let rest : HasNoZero ps (a + 1) k = λ i below. let next : a + suc i ≡ (a + 1) + i = omega arith in subst (λ (b : ℕ). byte_at ps b ≢ 0) next (some (suc i) (omega arith)) in
    rw (count, at) (text_more ps a (k + n) (omega arith) (mapped a (omega arith) (omega arith)) first
    ∙ ap (text_after (byte_at ps a)) (text_skip k ps (a + 1) n (omega arith) (λ b lo hi. mapped b (omega arith) (omega arith)) rest))

text_ends : (ps : List PageState) (a n : ℕ) → a < 2 ^ 32 → is_mapped ps a ≡ true → byte_at ps a ≡ 0 → text_at ps a (suc n) ≡ Ok []
unfolding text_at
text_ends ps a n low mapped zero_here = rw (lt-ltb a (2 ^ 32) low, mapped, eq-eqb (byte_at ps a) 0 zero_here) refl

text_too_long : (ps : List PageState) (a : ℕ) → text_at ps a 0 ≡ Err TooLong
unfolding text_at
text_too_long ps a = refl

text_past_end : (ps : List PageState) (a n : ℕ) → 2 ^ 32 ≤ a → text_at ps a (suc n) ≡ Err Fault
unfolding text_at
text_past_end ps a n high = rw (le-ltb a (2 ^ 32) high) refl

text_unmapped : (ps : List PageState) (a n : ℕ) → is_mapped ps a ≡ false → text_at ps a (suc n) ≡ Err Fault
unfolding text_at
text_unmapped ps a n none =
    elim (cases_Bool (ltb a (2 ^ 32))) [ inl e ↦ rw (e, none) refl | inr e ↦ rw e refl ]

-- what a prefix that can be read tells of the text there: its zero comes first
pub found_text : (ps : List PageState) (a n r k : ℕ) → a < 2 ^ 32 → r ≡ passing (is_mapped ps) a (min n (2 ^ 32 - a)) → HasNoZero ps a k → k < r → byte_at ps (a + k) ≡ 0 → text_at ps a n ≡ Ok (bytes_at ps a k)
found_text ps a n r k low is some inside zero_here =
    let bound = passing_le (min n (2 ^ 32 - a)) (is_mapped ps) a in
    let count : n ≡ k + suc (n - (k + 1)) = omega arith in
    let mapped : (b : ℕ) → a ≤ b → b < a + suc k → is_mapped ps b ≡ true = λ b lo hi. passing_passes (min n (2 ^ 32 - a)) (is_mapped ps) a b lo (omega arith) in
    ap (text_at ps a) count
    ∙ text_skip k ps a (suc (n - (k + 1))) (omega arith) (λ b lo hi. mapped b lo (omega arith)) some
    ∙ ap (text_behind (bytes_at ps a k)) (text_ends ps (a + k) (n - (k + 1)) (omega arith) (mapped (a + k) (omega arith) (omega arith)) zero_here)
    ∙ behind_ok (bytes_at ps a k)

-- all bytes can be read, and none is zero
pub long_text : (ps : List PageState) (a n r : ℕ) → a < 2 ^ 32 → r ≡ passing (is_mapped ps) a (min n (2 ^ 32 - a)) → HasNoZero ps a r → n ≤ r → text_at ps a n ≡ Err TooLong
long_text ps a n r low is some all =
    let bound = passing_le (min n (2 ^ 32 - a)) (is_mapped ps) a in
    let count : n ≡ r + 0 = omega arith in
    ap (text_at ps a) count
    ∙ text_skip r ps a 0 (omega arith) (λ b lo hi. passing_passes (min n (2 ^ 32 - a)) (is_mapped ps) a b lo (omega arith)) some
    ∙ ap (text_behind (bytes_at ps a r)) (text_too_long ps (a + r))
    ∙ behind_err (bytes_at ps a r) TooLong

-- the byte behind a prefix can't be read
behind_prefix : (ps : List PageState) (a n r m : ℕ) → a < 2 ^ 32 → r ≡ passing (is_mapped ps) a (min n (2 ^ 32 - a)) → r < n → text_at ps (a + r) (suc m) ≡ Err Fault
behind_prefix ps a n r m low is less =
    elim (cases_lt (a + r) (2 ^ 32)) [
      | inl inside ↦ text_unmapped ps (a + r) m (rw is (passing_stops (min n (2 ^ 32 - a)) (is_mapped ps) a (omega arith)))
      | inr past ↦ text_past_end ps (a + r) m past
    ]

pub faulting_text : (ps : List PageState) (a n r : ℕ) → a < 2 ^ 32 → r ≡ passing (is_mapped ps) a (min n (2 ^ 32 - a)) → HasNoZero ps a r → r < n → text_at ps a n ≡ Err Fault
faulting_text ps a n r low is some less =
    let bound = passing_le (min n (2 ^ 32 - a)) (is_mapped ps) a in
    let count : n ≡ r + suc (n - (r + 1)) = omega arith in
    ap (text_at ps a) count
    ∙ text_skip r ps a (suc (n - (r + 1))) (omega arith) (λ b lo hi. passing_passes (min n (2 ^ 32 - a)) (is_mapped ps) a b lo (omega arith)) some
    ∙ ap (text_behind (bytes_at ps a r)) (behind_prefix ps a n r (n - (r + 1)) low is less)
    ∙ behind_err (bytes_at ps a r) Fault

-- a byte of a range, by its place in the range
pub byte_of : (k : ℕ) (ps : List PageState) (a n : ℕ) → k < n → get_or (bytes_at ps a n) k 0 ≡ byte_at ps (a + k)
unfolding list_from
byte_of k ps a zero lt = absurd (omega arith)
byte_of zero ps a (suc n) lt = let here : a + 0 ≡ a = omega arith in rw here refl
byte_of (suc k) ps a (suc n) lt = let next : a + suc k ≡ (a + 1) + k = omega arith in rw next (byte_of k ps (a + 1) n (omega arith))

-- bytes without a zero that follow others
pub zeros_apart : (ps : List PageState) (a m n : ℕ) → HasNoZero ps a m → HasNoZero ps (a + m) n → HasNoZero ps a (m + n)
zeros_apart ps a m n front behind k lt =
    elim (cases_lt k m) [
      | inl early ↦ front k early
      | inr later ↦
          let at : (a + m) + (k - m) ≡ a + k = omega arith in
          subst (λ (b : ℕ). byte_at ps b ≢ 0) at (behind (k - m) (omega arith))
    ]

-- the zero of bytes that were read, by its place in the range
nonzero_at : (bytes : List ℕ) (ps : List PageState) (a n k : ℕ) → bytes ≡ bytes_at ps a n → k < n → get_or bytes k 0 ≢ 0 → byte_at ps (a + k) ≢ 0
nonzero_at bytes ps a n k is lt some zero_here = some (ap (λ (bs : List ℕ). get_or bs k 0) is ∙ byte_of k ps a n lt ∙ zero_here)

pub zero_before : (r : Option ℕ) (bytes : List ℕ) (ps : List PageState) (a n : ℕ) → bytes ≡ bytes_at ps a n
    → MatchOption r ((k : ℕ) → k < length bytes → get_or bytes k 0 ≢ 0) (λ i. (k : ℕ) → k < i → get_or bytes k 0 ≢ 0)
    → IfSome r (λ i. (i < length bytes) × (get_or bytes i 0 ≡ 0)) → MatchOption r (HasNoZero ps a n) (λ i. HasNoZero ps a i)
zero_before None bytes ps a n is before at =
    let size : length bytes ≡ n = ap length is ∙ length-list_from (byte_at ps) a n in
    λ k lt. nonzero_at bytes ps a n k is lt (before k (omega arith))
zero_before (Some i) bytes ps a n is before at =
    let size : length bytes ≡ n = ap length is ∙ length-list_from (byte_at ps) a n in
    λ k lt. nonzero_at bytes ps a n k is (omega (arith, at.0)) (before k lt)

pub zero_at : (r : Option ℕ) (bytes : List ℕ) (ps : List PageState) (a n : ℕ) → bytes ≡ bytes_at ps a n
    → IfSome r (λ i. (i < length bytes) × (get_or bytes i 0 ≡ 0)) → IfSome r (λ i. (i < n) × (byte_at ps (a + i) ≡ 0))
zero_at None bytes ps a n is at = tt
zero_at (Some i) bytes ps a n is at =
    let size : length bytes ≡ n = ap length is ∙ length-list_from (byte_at ps) a n in
    let inside : i < n = omega (arith, at.0) in
    (inside, sym (byte_of i ps a n inside) ∙ ap (λ (bs : List ℕ). get_or bs i 0) (sym is) ∙ at.1)
