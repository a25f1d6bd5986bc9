-- The bytes of an address that there is room for.
use Rattle.std.proofs.Common.{◌≡◌, ℕ, zero, suc, ◌≤◌, List, [], ◌∷◌, ◌++◌, length, take, drop, min, refl, ap, arith}
use Rattle.std.proofs.lemmas.Grind.{common_steps}

-- the front of what stands in a place
pub whole_front : (bytes rest : List ℕ) → take (length bytes) (bytes ++ rest) ≡ bytes
whole_front [] rest = refl
whole_front (b ∷ bytes) rest = ap (λ xs. b ∷ xs) (whole_front bytes rest)

pub cut_to_room : (bytes : List ℕ) (room : ℕ) → take (min (length bytes) room) bytes ≡ take room bytes
cut_to_room bytes room = grind (arith, common_steps)
