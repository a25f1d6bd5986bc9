-- The first free number, step by step.
use Rattle.std.proofs.Common.{◌≡◌, ℕ, suc, ◌+◌, ◌-◌, ◌<◌, ◌≤◌, true, false, List, Some, None, is_some, refl, arith}
use Rattle.number_maps.specs.NumberMap.{at, first_free}

pub free_end : {V : Type 0} (t : List (ℕ × V)) (from limit : ℕ) → limit ≤ from → first_free t from (limit - from) ≡ None
unfolding first_free
free_end t from limit h = let e : limit - from ≡ 0 = omega arith in rw e refl

pub free_here : {V : Type 0} (t : List (ℕ × V)) (from limit : ℕ) → from < limit → is_some (at t from) ≡ false → first_free t from (limit - from) ≡ Some from
unfolding first_free
free_here t from limit h absent = let e : limit - from ≡ suc (limit - (from + 1)) = omega arith in rw (e, absent) refl

pub free_next : {V : Type 0} (t : List (ℕ × V)) (from limit : ℕ) → from < limit → is_some (at t from) ≡ true → first_free t (from + 1) (limit - (from + 1)) ≡ first_free t from (limit - from)
unfolding first_free
free_next t from limit h there = let e : limit - from ≡ suc (limit - (from + 1)) = omega arith in rw (e, there) refl
