-- What a map's range says of its first entry.
use Rattle.std.proofs.Common.{◌≡◌, ℕ, ◌<◌, ◌≤◌, ◌^◌, false, List, ◌∷◌, nat_cmp, is_gt, Less, arith, subst}
use Rattle.std.specs.Prelude.{IfSome, slice_get}
use Rattle.std.proofs.lemmas.Grind.{common_steps}

-- a number from a bound on, below the number of pages
pub in_range : (first q : ℕ) → first ≤ q → q < 2 ^ 28 → (is_gt (nat_cmp first q) ≡ false) × (nat_cmp q (2 ^ 28) ≡ Less)
in_range first q lo hi = (grind (arith, common_steps), grind (arith, common_steps))

below : (a q : ℕ) → is_gt (nat_cmp a q) ≡ false → a ≤ q
below a q h = grind (arith, common_steps)

pub first_least : {V : Type 0} (entries : List (ℕ × V)) (number : ℕ) (value : V) (rest : List (ℕ × V)) (q : ℕ) → entries ≡ (number, value) ∷ rest → IfSome (slice_get entries 0) (λ e. is_gt (nat_cmp e.0 q) ≡ false) → number ≤ q
first_least {V} entries number value rest q e h = below number q (subst (λ (es : List (ℕ × V)). IfSome (slice_get es 0) (λ x. is_gt (nat_cmp x.0 q) ≡ false)) e h)
