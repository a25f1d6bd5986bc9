-- The runs of bytes other than 0, one after another.
use Rattle.std.proofs.Common.{◌≡◌, ◌≢◌, ℕ, zero, suc, ◌+◌, ◌-◌, ◌%◌, ◌^◌, ◌<◌, ◌≤◌, eqb, List, [], ◌∷◌, length, take, drop, refl, ap, subst, sym, ◌∙◌, inl, inr, arith}
use Rattle.std.specs.Prelude.{◌⊎◌, None, Some, Option, MatchOption, IfSome, ◌&&◌, not}
use Rattle.std.proofs.lemmas.Bool.{eq-eqb, ne_eqb, cases_eq, cases_lt, cases_Bool}
use Rattle.file_bytes.specs.declared.run.Run.{Run}
use Rattle.file_bytes.specs.Row.{row}
use Rattle.file_bytes.specs.Runs.{joined, runs_of, runs_from}
use Rattle.file_bytes.specs.Search.{AreZero, AreFilled, IsRunAt, IsNext}
use Rattle.file_bytes.proofs.Contents.{content_read, content_length, drop-row_front}

-- the runs in n places from a place on
abbrev runs_over : (ℕ → ℕ) → ℕ → ℕ → List (ℕ × List ℕ)
runs_over f a n = runs_of a (row f a n)

pub row_none : (f : ℕ → ℕ) (a : ℕ) → row f a 0 ≡ []
unfolding row
row_none f a = refl

pub row_one_more : (f : ℕ → ℕ) (a n : ℕ) → row f a (suc n) ≡ f a ∷ row f (a + 1) n
unfolding row
row_one_more f a n = refl

runs_none : (f : ℕ → ℕ) (a : ℕ) → runs_over f a 0 ≡ []
unfolding runs_of
runs_none f a = rw row_none refl

skip_byte : (i byte : ℕ) (bytes : List ℕ) → byte ≡ 0 → runs_of i (byte ∷ bytes) ≡ runs_of (i + 1) bytes
unfolding runs_of
skip_byte i byte bytes e = rw (eq-eqb byte 0 e) refl

take_byte : (i byte : ℕ) (bytes : List ℕ) → byte ≢ 0 → runs_of i (byte ∷ bytes) ≡ joined i byte (runs_of (i + 1) bytes)
unfolding runs_of
take_byte i byte bytes e = rw (ne_eqb byte 0 e) refl

skip_one : (f : ℕ → ℕ) (a n : ℕ) → f a ≡ 0 → runs_over f a (suc n) ≡ runs_over f (a + 1) n
skip_one f a n e = ap (runs_of a) (row_one_more f a n) ∙ skip_byte a (f a) (row f (a + 1) n) e

take_one : (f : ℕ → ℕ) (a n : ℕ) → f a ≢ 0 → runs_over f a (suc n) ≡ joined a (f a) (runs_over f (a + 1) n)
take_one f a n e = ap (runs_of a) (row_one_more f a n) ∙ take_byte a (f a) (row f (a + 1) n) e

-- places with zeros
runs_skip : (f : ℕ → ℕ) (k a n : ℕ) → AreZero f a (a + k) → runs_over f a (k + n) ≡ runs_over f (a + k) n
runs_skip f zero a n clear =
    let count : 0 + n ≡ n = omega arith in
    let place : a + 0 ≡ a = omega arith in
    rw (count, place) refl
runs_skip f (suc k) a n clear =
    let count : suc k + n ≡ suc (k + n) = omega arith in
    let place : a + suc k ≡ (a + 1) + k = omega arith in
    rw (count, place) (skip_one f a (k + n) (clear a (omega arith) (omega arith)) ∙ runs_skip f k (a + 1) n (λ b lo hi. clear b (omega arith) (omega arith)))

-- no run begins right at a place that has a zero, or past the end
abbrev StartsAfter : ℕ → List (ℕ × List ℕ) → Type 0
StartsAfter a [] = Unit {0}
StartsAfter a (run ∷ runs) = a < run.0

joined_start : (a b c : ℕ) (runs : List (ℕ × List ℕ)) → c < a → StartsAfter c (joined a b runs)
unfolding joined
joined_start a b c [] lt = lt
joined_start a b c (run ∷ runs) lt =
    elim (cases_Bool (eqb run.0 (a + 1) && not (eqb ((a + 1) % 4096) 0))) [ inl e ↦ rw e lt | inr e ↦ rw e lt ]

runs_start : (f : ℕ → ℕ) (n a c : ℕ) → c < a → StartsAfter c (runs_over f a n)
runs_start f zero a c lt = rw runs_none tt
runs_start f (suc n) a c lt =
    elim (cases_eq (f a) 0) [
      | inl e ↦ rw (skip_one f a n e) (runs_start f n (a + 1) c (omega arith))
      | inr e ↦ rw (take_one f a n e) (joined_start a (f a) c (runs_over f (a + 1) n) lt)
    ]

-- a byte alone
joined_alone : (a b : ℕ) (runs : List (ℕ × List ℕ)) → StartsAfter (a + 1) runs ⊎ ((a + 1) % 4096 ≡ 0) → joined a b runs ≡ (a, b ∷ []) ∷ runs
unfolding joined
joined_alone a b [] h = refl
joined_alone a b (run ∷ runs) (inl h) = rw (ne_eqb run.0 (a + 1) (λ e. omega arith)) refl
joined_alone a b (run ∷ runs) (inr h) =
    elim (cases_Bool (eqb run.0 (a + 1))) [ inl e ↦ rw (e, eq-eqb ((a + 1) % 4096) 0 h) refl | inr e ↦ rw e refl ]

-- a byte in front of a run
joined_run : (a b : ℕ) (bytes : List ℕ) (runs : List (ℕ × List ℕ)) → ((a + 1) % 4096 ≡ 0 → ⊥) → joined a b ((a + 1, bytes) ∷ runs) ≡ (a, b ∷ bytes) ∷ runs
unfolding joined
joined_run a b bytes runs h = rw (eq-eqb (a + 1) (a + 1) refl, ne_eqb ((a + 1) % 4096) 0 h) refl

one_byte : (f : ℕ → ℕ) (a : ℕ) → row f a 1 ≡ f a ∷ []
unfolding row
one_byte f a = refl

-- what ends a run
abbrev Ends : (ℕ → ℕ) → ℕ → ℕ → Type 0
Ends f a n = ((a % 4096 ≡ 0) ⊎ (f a ≡ 0)) ⊎ (n ≡ 0)

after_end : (f : ℕ → ℕ) (a n : ℕ) → Ends f (a + 1) n → StartsAfter (a + 1) (runs_over f (a + 1) n) ⊎ ((a + 1) % 4096 ≡ 0)
after_end f a n (inl (inl e)) = inr e
after_end f a zero (inl (inr e)) = inl (rw runs_none tt)
after_end f a (suc n) (inl (inr e)) = inl (rw (skip_one f (a + 1) n e) (runs_start f n ((a + 1) + 1) (a + 1) (omega arith)))
after_end f a n (inr e) = inl (rw (e, runs_none) tt)

runs_run : (f : ℕ → ℕ) (k a n : ℕ) → AreFilled f a (a + suc k) → a % 4096 + suc k ≤ 4096 → Ends f (a + suc k) n
    → runs_over f a (suc k + n) ≡ (a, row f a (suc k)) ∷ runs_over f (a + suc k) n
runs_run f zero a n filled one_page ends =
    let count : 1 + n ≡ suc n = omega arith in
    rw (count, one_byte) (take_one f a n (filled a (omega arith) (omega arith)) ∙ joined_alone a (f a) (runs_over f (a + 1) n) (after_end f a n ends))
runs_run f (suc k) a n filled one_page ends =
    let count : suc (suc k) + n ≡ suc (suc k + n) = omega arith in
    let place : a + suc (suc k) ≡ (a + 1) + suc k = omega arith in
    let offset : (a + 1) % 4096 ≡ a % 4096 + 1 = omega arith in
    let rest = runs_run f k (a + 1) n (λ b lo hi. filled b (omega arith) (omega arith)) (omega arith) (rw (← place) ends) in
    rw (count, place, row_one_more f a (suc k)) (take_one f a (suc k + n) (filled a (omega arith) (omega arith)) ∙ rw rest (joined_run a (f a) (row f (a + 1) (suc k)) (runs_over f ((a + 1) + suc k) n) (λ e. omega arith)))

run_in : (f : ℕ → ℕ) (a k n : ℕ) → 0 < k → AreFilled f a (a + k) → a % 4096 + k ≤ 4096 → Ends f (a + k) n → runs_over f a (k + n) ≡ (a, row f a k) ∷ runs_over f (a + k) n
run_in f a zero n some filled one_page ends = absurd (omega arith)
run_in f a (suc k) n some filled one_page ends = runs_run f k a n filled one_page ends

-- the runs of a file's bytes, by its size
runs_of_file : (f : ℕ → ℕ) (size from : ℕ) → runs_from (row f 0 size) from ≡ runs_over f from (size - from)
runs_of_file f size from = ap (runs_of from) (drop-row_front f size from)

file_none : (f : ℕ → ℕ) (size from : ℕ) → size ≤ 2 ^ 40 → AreZero f from (2 ^ 40) → runs_from (row f 0 size) from ≡ []
file_none f size from low clear =
    let count : size - from ≡ (size - from) + 0 = omega arith in
    runs_of_file f size from ∙ ap (runs_over f from) count ∙ runs_skip f (size - from) from 0 (λ b lo hi. clear b lo (omega arith)) ∙ runs_none f (from + (size - from))

-- a run lies within the file, since past its size all is 0
run_within : (f : ℕ → ℕ) (size from : ℕ) (run : Run) → ((i : ℕ) → size ≤ i → f i ≡ 0) → IsRunAt f from run → run.at + run.length ≤ size
run_within f size from run zeros h =
    elim (cases_lt size (run.at + run.length)) [
      | inl lt ↦ absurd (h.filled (run.at + run.length - 1) (omega (arith, h.some)) (omega (arith, h.some)) (zeros (run.at + run.length - 1) (omega arith)))
      | inr le ↦ le
    ]

file_some : (f : ℕ → ℕ) (size from : ℕ) (run : Run) → ((i : ℕ) → size ≤ i → f i ≡ 0) → IsRunAt f from run
    → runs_from (row f 0 size) from ≡ (run.at, take run.length (drop run.at (row f 0 size))) ∷ runs_from (row f 0 size) (run.at + run.length)
file_some f size from run zeros h =
    let within : run.at + run.length ≤ size = run_within f size from run zeros h in
    let rest : ℕ = size - (run.at + run.length) in
    let count : size - from ≡ (run.at - from) + (run.length + (size - (run.at + run.length))) = omega (arith, h.later) in
    let place : from + (run.at - from) ≡ run.at = omega (arith, h.later) in
    let ends : Ends f (run.at + run.length) rest = elim (cases_eq ((run.at + run.length) % 4096) 0) [ inl e ↦ inl (inl e) | inr e ↦ inl (inr (h.ends e)) ] in
    runs_of_file f size from ∙ ap (runs_over f from) count
    ∙ runs_skip f (run.at - from) from (run.length + rest) (λ b lo hi. h.clear b lo (omega (arith, h.later)))
    ∙ ap (λ a. runs_over f a (run.length + rest)) place
    ∙ run_in f run.at run.length rest h.some h.filled h.one_page ends
    ∙ ap (λ xs. (run.at, xs) ∷ runs_over f (run.at + run.length) rest) (content_read f size run.at run.length within)
    ∙ ap (λ xs. (run.at, take run.length (drop run.at (row f 0 size))) ∷ xs) (sym (runs_of_file f size (run.at + run.length)))

-- what the search found, as the contract says it
pub told : (f : ℕ → ℕ) (size from : ℕ) (r : Option Run) (bytes : List ℕ) → row f 0 size ≡ bytes → size ≤ 2 ^ 40 → ((i : ℕ) → size ≤ i → f i ≡ 0) → IsNext f from (2 ^ 40) r
    → MatchOption r (runs_from bytes from ≡ []) (λ run. runs_from bytes from ≡ (run.at, take run.length (drop run.at bytes)) ∷ runs_from bytes (run.at + run.length))
told f size from None bytes view low zeros h = subst (λ xs. runs_from xs from ≡ []) view (file_none f size from low h)
told f size from (Some run) bytes view low zeros h =
    subst (λ xs. runs_from xs from ≡ (run.at, take run.length (drop run.at xs)) ∷ runs_from xs (run.at + run.length)) view (file_some f size from run zeros h)

pub told_within : (f : ℕ → ℕ) (size from : ℕ) (r : Option Run) (bytes : List ℕ) → row f 0 size ≡ bytes → ((i : ℕ) → size ≤ i → f i ≡ 0) → IsNext f from (2 ^ 40) r
    → IfSome r (λ run. (from ≤ run.at) × (0 < run.length) × (run.length ≤ 4096) × (run.at + run.length ≤ length bytes))
told_within f size from None bytes view zeros h = tt
told_within f size from (Some run) bytes view zeros h =
    let within : run.at + run.length ≤ size = run_within f size from run zeros h in
    let whole : length bytes ≡ size = ap length (sym view) ∙ content_length f size in
    (h.later, h.some, omega (arith, h.one_page), rw whole within)
