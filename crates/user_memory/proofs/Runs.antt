-- The runs of changed bytes, one after another.
use Rattle.std.proofs.Common.{◌≡◌, ℕ, zero, suc, ◌+◌, ◌-◌, ◌%◌, ◌^◌, ◌<◌, ◌≤◌, true, false, eqb, List, [], ◌∷◌, refl, ◌∙◌, inl, inr, arith}
use Rattle.std.specs.Prelude.{◌⊎◌, None, ◌&&◌, not}
use Rattle.std.proofs.lemmas.Bool.{eq-eqb, ne_eqb, cases_eq, cases_Bool}
use Rattle.user_memory.specs.declared.change.Change.{Change}
use Rattle.user_memory.specs.Pages.{PageState, byte_at, differs}
use Rattle.user_memory.specs.Memory.{list_from, bytes_at}
use Rattle.user_memory.specs.Changes.{joined, runs_over, changes, IsChangeAt, IsNext}

runs_skip_one : (pages : List PageState) (a n : ℕ) → differs pages a ≡ false → runs_over pages a (suc n) ≡ runs_over pages (a + 1) n
unfolding runs_over
runs_skip_one pages a n e = rw e refl

runs_take_one : (pages : List PageState) (a n : ℕ) → differs pages a ≡ true → runs_over pages a (suc n) ≡ joined a (byte_at pages a) (runs_over pages (a + 1) n)
unfolding runs_over
runs_take_one pages a n e = rw e refl

runs_none : (pages : List PageState) (a : ℕ) → runs_over pages a 0 ≡ []
unfolding runs_over
runs_none pages a = refl

-- addresses without a change
runs_skip : (pages : List PageState) (k a n : ℕ) → ((b : ℕ) → a ≤ b → b < a + k → differs pages b ≡ false) → runs_over pages a (k + n) ≡ runs_over pages (a + k) n
runs_skip pages zero a n same =
    let count : 0 + n ≡ n = omega arith in
    let at : a + 0 ≡ a = omega arith in
    rw (count, at) refl
runs_skip pages (suc k) a n same =
    let count : suc k + n ≡ suc (k + n) = omega arith in
    let at : a + suc k ≡ (a + 1) + k = omega arith in
    rw (count, at) (runs_skip_one pages a (k + n) (same a (omega arith) (omega arith)) ∙ runs_skip pages k (a + 1) n (λ b lo hi. same b (omega arith) (omega arith)))

-- no run begins right at an address that has no change, or past the end
abbrev StartsAfter : ℕ → List (ℕ × List ℕ) → Type 0
StartsAfter a [] = Unit {0}
StartsAfter a (run ∷ runs) = a < run.0

joined_start : (a b c : ℕ) (runs : List (ℕ × List ℕ)) → c < a → StartsAfter c (joined a b runs)
unfolding joined
joined_start a b c [] lt = lt
joined_start a b c (run ∷ runs) lt =
    elim (cases_Bool (eqb run.0 (a + 1) && not (eqb ((a + 1) % 4096) 0))) [ inl e ↦ rw e lt | inr e ↦ rw e lt ]

runs_start : (pages : List PageState) (n a c : ℕ) → c < a → StartsAfter c (runs_over pages a n)
runs_start pages zero a c lt = rw runs_none tt
runs_start pages (suc n) a c lt =
    elim (cases_Bool (differs pages a)) [
      | inl e ↦ rw (runs_take_one pages a n e) (joined_start a (byte_at pages a) c (runs_over pages (a + 1) n) lt)
      | inr e ↦ rw (runs_skip_one pages a n e) (runs_start pages n (a + 1) c (omega arith))
    ]

-- a changed byte alone
joined_alone : (a b : ℕ) (runs : List (ℕ × List ℕ)) → StartsAfter (a + 1) runs ⊎ ((a + 1) % 4096 ≡ 0) → joined a b runs ≡ (a, b ∷ []) ∷ runs
unfolding joined
joined_alone a b [] h = refl
joined_alone a b (run ∷ runs) (inl h) = rw (ne_eqb run.0 (a + 1) (λ e. omega arith)) refl
joined_alone a b (run ∷ runs) (inr h) =
    elim (cases_Bool (eqb run.0 (a + 1))) [ inl e ↦ rw (e, eq-eqb ((a + 1) % 4096) 0 h) refl | inr e ↦ rw e refl ]

-- a changed byte in front of a run
joined_run : (a b : ℕ) (bytes : List ℕ) (runs : List (ℕ × List ℕ)) → ((a + 1) % 4096 ≡ 0 → ⊥) → joined a b ((a + 1, bytes) ∷ runs) ≡ (a, b ∷ bytes) ∷ runs
unfolding joined
joined_run a b bytes runs h = rw (eq-eqb (a + 1) (a + 1) refl, ne_eqb ((a + 1) % 4096) 0 h) refl

one_byte : (pages : List PageState) (a : ℕ) → bytes_at pages a 1 ≡ byte_at pages a ∷ []
unfolding list_from
one_byte pages a = refl

more_bytes : (pages : List PageState) (a k : ℕ) → bytes_at pages a (suc k) ≡ byte_at pages a ∷ bytes_at pages (a + 1) k
unfolding list_from
more_bytes pages a k = refl

-- what ends a run
abbrev Ends : List PageState → ℕ → ℕ → Type 0
Ends pages a n = ((a % 4096 ≡ 0) ⊎ (differs pages a ≡ false)) ⊎ (n ≡ 0)

after_end : (pages : List PageState) (a n : ℕ) → Ends pages (a + 1) n → StartsAfter (a + 1) (runs_over pages (a + 1) n) ⊎ ((a + 1) % 4096 ≡ 0)
after_end pages a n (inl (inl e)) = inr e
after_end pages a zero (inl (inr e)) = inl (rw runs_none tt)
after_end pages a (suc n) (inl (inr e)) = inl (rw (runs_skip_one pages (a + 1) n e) (runs_start pages n ((a + 1) + 1) (a + 1) (omega arith)))
after_end pages a n (inr e) = inl (rw (e, runs_none) tt)

runs_run : (pages : List PageState) (k a n : ℕ) → ((b : ℕ) → a ≤ b → b < a + suc k → differs pages b ≡ true) → a % 4096 + suc k ≤ 4096 → Ends pages (a + suc k) n
    → runs_over pages a (suc k + n) ≡ (a, bytes_at pages a (suc k)) ∷ runs_over pages (a + suc k) n
runs_run pages zero a n changed one_page ends =
    let count : 1 + n ≡ suc n = omega arith in
    rw (count, one_byte) (runs_take_one pages a n (changed a (omega arith) (omega arith)) ∙ joined_alone a (byte_at pages a) (runs_over pages (a + 1) n) (after_end pages a n ends))
runs_run pages (suc k) a n changed one_page ends =
    let count : suc (suc k) + n ≡ suc (suc k + n) = omega arith in
    let at : a + suc (suc k) ≡ (a + 1) + suc k = omega arith in
    let offset : (a + 1) % 4096 ≡ a % 4096 + 1 = omega arith in
    let rest = runs_run pages k (a + 1) n (λ b lo hi. changed b (omega arith) (omega arith)) (omega arith) (rw (← at) ends) in
    rw (count, at, more_bytes) (runs_take_one pages a (suc k + n) (changed a (omega arith) (omega arith)) ∙ rw rest (joined_run a (byte_at pages a) (bytes_at pages (a + 1) (suc k)) (runs_over pages ((a + 1) + suc k) n) (λ e. omega arith)))

pub changes_none : (pages : List PageState) (from : ℕ) → IsNext pages from None → changes pages from ≡ []
unfolding changes
changes_none pages from next =
    let count : 2 ^ 32 - from ≡ (2 ^ 32 - from) + 0 = omega arith in
    rw count (runs_skip pages (2 ^ 32 - from) from 0 (λ b lo hi. next b lo (omega arith)) ∙ runs_none pages (from + (2 ^ 32 - from)))

run_in : (pages : List PageState) (at length n : ℕ) → 0 < length → ((b : ℕ) → at ≤ b → b < at + length → differs pages b ≡ true) → at % 4096 + length ≤ 4096 → Ends pages (at + length) n
    → runs_over pages at (length + n) ≡ (at, bytes_at pages at length) ∷ runs_over pages (at + length) n
run_in pages at zero n some changed one_page ends = absurd (omega arith)
run_in pages at (suc k) n some changed one_page ends = runs_run pages k at n changed one_page ends

pub changes_some : (pages : List PageState) (from : ℕ) (c : Change) → IsChangeAt pages from c → changes pages from ≡ (c.at, bytes_at pages c.at c.length) ∷ changes pages (c.at + c.length)
unfolding changes
changes_some pages from c next =
    let count : 2 ^ 32 - from ≡ (c.at - from) + (c.length + (2 ^ 32 - (c.at + c.length))) = omega (arith, next.later, next.within) in
    let at : from + (c.at - from) ≡ c.at = omega (arith, next.later) in
    let ends : Ends pages (c.at + c.length) (2 ^ 32 - (c.at + c.length)) =
    elim (cases_eq ((c.at + c.length) % 4096) 0) [ inl e ↦ inl (inl e) | inr e ↦ inl (inr (next.ends e)) ] in
    rw count (runs_skip pages (c.at - from) from (c.length + (2 ^ 32 - (c.at + c.length))) (λ b lo hi. next.clear b lo (omega (arith, next.later)))
    ∙ rw at (run_in pages c.at c.length (2 ^ 32 - (c.at + c.length)) next.some next.changed next.one_page ends))
