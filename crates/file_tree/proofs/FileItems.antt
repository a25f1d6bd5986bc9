-- What is left of a file that isn't there.
use Rattle.std.proofs.Common.{◌≡◌, ℕ, zero, suc, drop, [], refl}
use Rattle.file_bytes.specs.Filled.{filled_below, filled_pages}
use Rattle.file_bytes.specs.Runs.{runs_from, runs_of}

drop_nothing : {A : Type 0} (n : ℕ) → drop {A = A} n [] ≡ []
drop_nothing zero = refl
drop_nothing (suc n) = refl

pub no_runs : (start : ℕ) → runs_from [] start ≡ []
unfolding runs_of
no_runs start = rw (drop_nothing {A = ℕ} start) refl

pub no_filled_pages : filled_pages [] ≡ 0
unfolding filled_pages filled_below
no_filled_pages = refl
