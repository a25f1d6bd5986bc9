-- What an ABI decides beside its registers and its layouts' tables.
use Rattle.std.specs.Prelude.{ℕ, Bool, true, false}
use Rattle.kernel_values.specs.declared.abi.AbiKind.{AbiKind}
use Rattle.kernel_values.specs.declared.abi.AbiKind.TheVariants.{Ia32, ArmEabi}

-- whether a 64-bit argument in two words begins at an even place: not on i386, but on Arm
abbrev pub are_pairs_even : AbiKind → Bool
are_pairs_even Ia32 = false
are_pairs_even ArmEabi = true

-- how 64-bit numbers are aligned in structures, in bytes
abbrev pub align_of : AbiKind → ℕ
align_of Ia32 = 4
align_of ArmEabi = 8
