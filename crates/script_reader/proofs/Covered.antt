-- Ranges of addresses, page by page.
use Rattle.std.proofs.Common.{◌≡◌, ℕ, zero, suc, ◌+◌, ◌/◌, ◌<◌, ◌≤◌, Bool, true, false, refl, inl, inr, arith}
use Rattle.std.specs.Prelude.{◌&&◌}
use Rattle.std.proofs.lemmas.Bool.{cases_lt}
use Rattle.std.specs.BTreeSet.{BTreeSet}
use Rattle.script_reader.specs.Seen.{has_page, all_mapped}

and_false : (b : Bool) → (b && false) ≡ false
and_false true = refl
and_false false = refl

pub all_from : (n : ℕ) (pages : BTreeSet ℕ) (a : ℕ) → ((b : ℕ) → a ≤ b → b < a + n → has_page pages (b / 4096) ≡ true) → all_mapped pages a n ≡ true
unfolding all_mapped
all_from zero pages a h = refl
all_from (suc n) pages a h = rw (h a (omega arith) (omega arith)) (all_from n pages (a + 1) (λ b from_a below. h b (omega arith) (omega arith)))

pub one_fails : (n : ℕ) (pages : BTreeSet ℕ) (a b : ℕ) → a ≤ b → b < a + n → has_page pages (b / 4096) ≡ false → all_mapped pages a n ≡ false
unfolding all_mapped
one_fails zero pages a b from_a below fails = absurd (omega arith)
one_fails (suc n) pages a b from_a below fails =
    elim (cases_lt a b) [
      | inl lt ↦ rw (one_fails n pages (a + 1) b (omega arith) (omega arith) fails) (and_false (has_page pages (a / 4096)))
      | inr le ↦ let same : b ≡ a = omega arith in rw (← same, fails) refl
    ]
