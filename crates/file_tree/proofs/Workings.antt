-- Paths of at most 4,095 bytes.
use Rattle.std.proofs.Common.{◌≡◌, ℕ, ◌≤◌, Bool, true, false, nat_lt, List, [], ◌∷◌, length, Option, Some, None, option_map, refl, arith}
use Rattle.std.proofs.lemmas.Grind.{common_steps}
use Rattle.file_tables.specs.PathTexts.{path_text, short_text}

short_cases : (long : Bool) (t : List ℕ) → nat_lt 4095 (length (path_text t)) ≡ long → nat_lt 4095 (length t) ≡ long → short_text (path_text t) ≡ option_map path_text (short_text t)
short_cases true t p q = rw (p, q) refl
short_cases false t p q = rw (p, q) refl

-- the root's slash is short too
pub short_path : (t : List ℕ) → short_text (path_text t) ≡ option_map path_text (short_text t)
short_path [] = refl
short_path (b ∷ bs) = short_cases (nat_lt 4095 (length (b ∷ bs))) (b ∷ bs) refl refl

pub short_length : (t u : List ℕ) → short_text t ≡ Some u → length u ≤ 4095
short_length t u short = grind (arith, common_steps)
