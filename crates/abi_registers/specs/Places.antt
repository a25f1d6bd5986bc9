-- The registers' roles in a call, by their places in eax, ebx, ecx, edx, esi, edi, ebp, esp, eip, eflags, and
-- in r0 to r15, cpsr.
use Rattle.std.specs.Prelude.{ℕ, List, [], ◌∷◌, slice_index, slice_set}
use Rattle.kernel_values.specs.declared.abi.AbiKind.{AbiKind}
use Rattle.kernel_values.specs.declared.abi.AbiKind.TheVariants as kind
use Rattle.abi_registers.specs.declared.registers.Registers.{Registers}
use Rattle.abi_registers.specs.declared.registers.Registers.TheVariants.{Ia32, Arm}

abbrev pub kind_in : Registers → AbiKind
kind_in (Ia32 r) = kind.Ia32
kind_in (Arm r) = kind.ArmEabi

-- all registers in order
abbrev pub all_in : Registers → List ℕ
all_in (Ia32 r) = r
all_in (Arm r) = r

-- the number of the call: eax, r7
abbrev pub number_in : Registers → ℕ
number_in (Ia32 r) = slice_index r 0
number_in (Arm r) = slice_index r 7

-- the six argument words: ebx, ecx, edx, esi, edi, ebp; r0 to r5
abbrev pub words_in : Registers → List ℕ
words_in (Ia32 r) = slice_index r 1 ∷ slice_index r 2 ∷ slice_index r 3 ∷ slice_index r 4 ∷ slice_index r 5 ∷ slice_index r 6 ∷ []
words_in (Arm r) = slice_index r 0 ∷ slice_index r 1 ∷ slice_index r 2 ∷ slice_index r 3 ∷ slice_index r 4 ∷ slice_index r 5 ∷ []

-- a result in eax, r0, and all other registers as they were
abbrev pub with_result : Registers → ℕ → Registers
with_result (Ia32 r) w = Ia32 (slice_set r 0 w)
with_result (Arm r) w = Arm (slice_set r 0 w)

-- esp, r13
abbrev pub stack_pointer_in : Registers → ℕ
stack_pointer_in (Ia32 r) = slice_index r 7
stack_pointer_in (Arm r) = slice_index r 13
