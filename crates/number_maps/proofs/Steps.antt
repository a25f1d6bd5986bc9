-- A map gone through, entry by entry.
use Rattle.std.proofs.Common.{◌≡◌, ◌<◌, ℕ, List, [], ◌∷◌, length, Option, Some, None, refl, arith}
use Rattle.number_maps.specs.NumberMap.{after, after_key}

-- of no entries none is left
pub nothing_after : {V : Type 0} (key : Option ℕ) → after {V = V} [] key ≡ []
unfolding after_key
nothing_after None = refl
nothing_after (Some key) = refl

pub fewer_left : {V : Type 0} (entries later : List (ℕ × V)) (key : ℕ) (value : V) → entries ≡ (key, value) ∷ later → length later < length entries
fewer_left entries later key value first = rw first (omega arith)
