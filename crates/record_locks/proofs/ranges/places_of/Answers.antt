use Rattle.std.proofs.Common.{◌≡◌, ℤ, pos, ◌+ℤ◌, ◌-ℤ◌, ap, ◌∙◌, sym, arith}
use Rattle.std.proofs.lemmas.Int.{ints}
use Rattle.record_locks.proofs.Places.{negative_places}
use Rattle.record_locks.proofs.ranges.places_of.Goals as goal

same_pair : (a b x y : ℤ) → a ≡ x → b ≡ y → ◌≡◌ {A = ℤ × ℤ} (a, b) (x, y)
same_pair a b x y e f = ap (λ z. (z, b)) e ∙ ap (λ z. (x, z)) f

pub returns-then-length-lt0-clause-value : goal.returns-then-length-lt0-clause-value
returns-then-length-lt0-clause-value c =
    let place : ℤ = pos c.args.base +ℤ c.args.start in
    same_pair _ _ (place +ℤ c.args.length) (place -ℤ pos 1) (omega (arith, ints)) (omega (arith, ints)) ∙ sym (negative_places place c.args.length (omega (arith, ints)))
