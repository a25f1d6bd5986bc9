-- The size of a set of signals, where a call names it.
use Rattle.std.specs.Prelude.{ℕ, ◌==◌, Result, Err, if◌then◌else◌}
use Rattle.kernel_values.specs.declared.errno.Errno.{Errno}
use Rattle.kernel_values.specs.declared.errno.Errno.TheVariants.{InvalidArgument}
use Rattle.native_kernel.specs.declared.state.Kernel.{Kernel}

-- a set has 8 bytes; EINVAL for another size, before any pointer is looked at
abbrev pub if_whole_set : {A : Type 0} → ℕ → Kernel → Result A Errno × Kernel → Result A Errno × Kernel
if_whole_set size k asked = if size == 8 then asked else (Err InvalidArgument, k)
