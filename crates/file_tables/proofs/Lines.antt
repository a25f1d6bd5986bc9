-- The lines of a directory behind a position.
use Rattle.std.proofs.Common.{◌≡◌, ℕ, ◌<◌, ◌≤◌, List, [], ◌∷◌, map, refl, arith}
use Rattle.std.proofs.lemmas.Grind.{common_steps}
use Rattle.file_tables.specs.Listing.{line_of, lines}
use Rattle.number_maps.specs.NumberMap.{after_key}
use Rattle.file_tables.specs.declared.state.Directory.{Directory}
use Rattle.file_tables.specs.declared.state.Entry.{Entry}

-- lines keep the positions of their entries
after_lines : (t : List (ℕ × Entry)) (p : ℕ) → after_key (map line_of t) p ≡ map line_of (after_key t p)
unfolding after_key
after_lines [] p = refl
after_lines (e ∷ t) p = grind (arith, common_steps, after_lines t p)

-- what is behind the greater of two positions
after_less : (t : List (ℕ × Entry)) (a p : ℕ) → p ≤ a → after_key (after_key t a) p ≡ after_key t a
unfolding after_key
after_less [] a p h = refl
after_less (e ∷ t) a p h = grind (arith, common_steps, after_less t a p h)

after_more : (t : List (ℕ × Entry)) (a p : ℕ) → a ≤ p → after_key (after_key t a) p ≡ after_key t p
unfolding after_key
after_more [] a p h = refl
after_more (e ∷ t) a p h = grind (arith, common_steps, after_more t a p h)

-- behind `..` come the names
pub lines_from : (d : Directory) (here p : ℕ) → 2 ≤ p → after_key (lines d here) p ≡ map line_of (after_key d.names p)
unfolding after_key lines
lines_from d here p h = grind (arith, common_steps, after_lines, after_more)

pub after_dot : (d : Directory) (here p : ℕ) → p < 1 → after_key (lines d here) p ≡ (1, (46 ∷ [], here)) ∷ after_key (lines d here) 1
unfolding after_key lines
after_dot d here p h = grind (arith, common_steps, after_lines, after_less)

pub after_dot_dot : (d : Directory) (here p : ℕ) → 1 ≤ p → p < 2 → after_key (lines d here) p ≡ (2, (46 ∷ (46 ∷ []), d.parent)) ∷ after_key (lines d here) 2
unfolding after_key lines
after_dot_dot d here p h k = grind (arith, common_steps, after_lines, after_less)
