-- The places of a range with a negative length.
use Rattle.std.proofs.Common.{◌≡◌, ℤ, pos, negsuc, ◌+ℤ◌, ◌-ℤ◌, ◌<ℤ◌, refl, arith}
use Rattle.std.proofs.lemmas.Int.{ints}
use Rattle.record_locks.specs.Ranges.{places_of}

pub negative_places : (start length : ℤ) → length <ℤ pos 0 → places_of start length ≡ (start +ℤ length, start -ℤ pos 1)
negative_places start (pos n) h = absurd (omega (arith, ints))
negative_places start (negsuc n) h = refl
