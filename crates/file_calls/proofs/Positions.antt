-- Positions past the last one.
use Rattle.std.proofs.Common.{◌≡◌, ℕ, ℤ, pos, ◌<◌, ◌^◌, arith}
use Rattle.std.proofs.lemmas.Grind.{common_steps}
use Rattle.native_kernel.specs.declared.state.Kernel.{Kernel}
use Rattle.native_kernel.specs.Operations.{seek}

pub far_seek : (k : Kernel) (fd : ℤ) (p q : ℕ) → 2 ^ 40 < p → 2 ^ 40 < q → seek k fd (pos p) 0 ≡ seek k fd (pos q) 0
unfolding seek
far_seek k fd p q h g = grind (arith, common_steps)
