-- Descriptors closed one by one.
use Rattle.std.proofs.Common.{◌≡◌, ℕ, suc, ◌+◌, ◌-◌, ◌<◌, ◌≤◌, refl, arith}
use Rattle.file_store.specs.Closing.{closed_times, lowest_closed}
use Rattle.file_store.specs.declared.state.Files.{Files}

pub none_left : (s : Files) (i n : ℕ) → n ≤ i → closed_times (n - i) s ≡ s
unfolding closed_times
none_left s i n h = let e : n - i ≡ 0 = omega arith in rw e refl

pub one_more : (s : Files) (i n : ℕ) → i < n → closed_times (n - (i + 1)) (lowest_closed s s.open_files.descriptors) ≡ closed_times (n - i) s
unfolding closed_times
one_more s i n h = let e : n - i ≡ suc (n - (i + 1)) = omega arith in rw e refl
