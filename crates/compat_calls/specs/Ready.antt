-- The region for translation between calls.
use Rattle.std.specs.Prelude.{◌≡◌, ℕ, ◌≤◌, max, Result, Ok, Err}
use Rattle.kernel_values.specs.declared.errno.KernelFault.{KernelFault}
use Rattle.kernel_values.specs.declared.errno.KernelFault.TheVariants as fault
use Rattle.scratch_region.specs.Needs.{IsEmpty}
use Rattle.scratch_region.specs.Region.{RegionState}

-- how many bytes of the region one call may take
abbrev pub region_size : ℕ
region_size = 1310720

-- nothing of the region is taken, and it has room for any call
pub record IsReady (r : RegionState) : Type 0 where
  pub empty : IsEmpty r
  pub room : region_size ≤ r.capacity

-- The most bytes that a call has taken, before and after one that took so many. Where memory ran out, nothing is said.
abbrev pub Counts : ℕ → Result ℕ KernelFault → ℕ → ℕ → Type 0
Counts need (Ok w) before after = after ≡ max before need
Counts need (Err (fault.Errno e)) before after = after ≡ max before need
Counts need (Err fault.OutOfMemory) before after = Unit {0}
