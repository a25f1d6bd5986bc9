-- The directories among names, one name after another.
use Rattle.std.proofs.Common.{◌≡◌, ℕ, ◌+◌, ◌≤◌, Bool, true, false, List, [], ◌∷◌, refl, arith}
use Rattle.std.specs.Prelude.{min, if◌then◌else◌}
use Rattle.file_tables.specs.Directories.{is_directory}
use Rattle.file_tables.specs.Links.{directories_among}
use Rattle.file_tables.specs.declared.state.Directory.{Directory}
use Rattle.file_tables.specs.declared.state.Entry.{Entry}

pub no_directories : (dirs : List (ℕ × Directory)) (names : List (ℕ × Entry)) → names ≡ [] → directories_among dirs names ≡ 0
unfolding directories_among
no_directories dirs names none = rw none refl

one_more : (b : Bool) (n : ℕ) → (if b then n + 1 else n) ≡ (if b then 1 else 0) + n
one_more true n = omega arith
one_more false n = omega arith

pub first_directory : (dirs : List (ℕ × Directory)) (names later : List (ℕ × Entry)) (position : ℕ) (entry : Entry) → names ≡ (position, entry) ∷ later → directories_among dirs names ≡ (if is_directory dirs entry.child then 1 else 0) + directories_among dirs later
unfolding directories_among
first_directory dirs names later position entry first = rw first (one_more (is_directory dirs entry.child) (directories_among dirs later))

-- a sum that stops at a greatest number stays there
pub sum_stops : (links more rest most whole : ℕ) → min (links + (more + rest)) most ≡ whole → min (min (links + more) most + rest) most ≡ whole
sum_stops links more rest most whole h = omega arith

pub sum_ends : (links rest most whole : ℕ) → rest ≡ 0 → links ≤ most → min (links + rest) most ≡ whole → links ≡ whole
sum_ends links rest most whole none fits h = omega arith
