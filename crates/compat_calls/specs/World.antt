-- A process and the kernel behind it, at the start.
use Rattle.std.specs.Prelude.{ℕ, []}
use Rattle.native_kernel.specs.declared.state.Identity.{Identity}
use Rattle.native_kernel.specs.Operations.{started}
use Rattle.compat_calls.specs.declared.world.World.{World}

-- no page is mapped, and no call took anything of the region
abbrev pub started_world : Identity → ℕ → World
started_world identity restorer = record { memory = []; kernel = started identity; region = 0; restorer = restorer }
