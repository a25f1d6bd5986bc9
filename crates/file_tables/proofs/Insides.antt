-- The steps up from a place, one by one.
use Rattle.std.proofs.Common.{◌≡◌, ℕ, suc, ◌+◌, ◌-◌, ◌<◌, ◌≤◌, ◌==◌, true, false, List, refl, arith}
use Rattle.file_tables.specs.Directories.{parent_of}
use Rattle.file_tables.specs.Places.{is_inside}
use Rattle.file_tables.specs.declared.state.Directory.{Directory}

pub inside_end : (d : List (ℕ × Directory)) (inode place step count : ℕ) → count ≤ step → is_inside d inode place (count - step) ≡ false
unfolding is_inside
inside_end d inode place step count h = let e : count - step ≡ 0 = omega arith in rw e refl

pub inside_here : (d : List (ℕ × Directory)) (inode place step count : ℕ) → step < count → (place == inode) ≡ true → is_inside d inode place (count - step) ≡ true
unfolding is_inside
inside_here d inode place step count h same = let e : count - step ≡ suc (count - (step + 1)) = omega arith in rw (e, same) refl

pub inside_next : (d : List (ℕ × Directory)) (inode place step count : ℕ) → step < count → (place == inode) ≡ false → is_inside d inode (parent_of d place) (count - (step + 1)) ≡ is_inside d inode place (count - step)
unfolding is_inside
inside_next d inode place step count h other = let e : count - step ≡ suc (count - (step + 1)) = omega arith in rw (e, other) refl
