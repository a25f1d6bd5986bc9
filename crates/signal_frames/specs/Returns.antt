-- The return from a handler.
use Rattle.std.specs.Prelude.{◌≡◌, ℕ, ◌+◌, ◌%◌, ◌^◌, ◌<◌, ◌==◌, ◌&&◌, Bool, true, false, List, Option, Some, None, length, slice_index, slice_set, if◌then◌else◌}
use Rattle.std.specs.Int.RustNames.{bit_and, bit_or}
use Rattle.std.specs.List.{AllByRecursion}
use Rattle.kernel_values.specs.declared.abi.AbiKind.{AbiKind}
use Rattle.kernel_values.specs.declared.abi.AbiKind.TheVariants as abi
use Rattle.kernel_values.specs.declared.process_end.End.TheVariants as end
use Rattle.kernel_values.specs.declared.signals.AltStack.{AltStack}
use Rattle.kernel_values.specs.declared.signals.SigInfo.{SigInfo}
use Rattle.abi_registers.specs.declared.registers.Registers.{Registers}
use Rattle.abi_registers.specs.declared.registers.Registers.TheVariants.{Ia32, Arm}
use Rattle.abi_registers.specs.Places.{kind_in, stack_pointer_in}
use Rattle.layout_laws.specs.Shapes.{value_of}
use Rattle.native_kernel.specs.declared.state.Kernel.{Kernel}
use Rattle.native_kernel.specs.Operations as native
use Rattle.signal_layouts.specs.declared.stacks.Stack32.{Stack32}
use Rattle.signal_layouts.specs.Ia32 as ia32
use Rattle.signal_layouts.specs.Arm as arm
use Rattle.user_memory.specs.Memory.{bytes_at, is_readable}
use Rattle.user_memory.specs.Pages.{PageState}
use Rattle.signal_frames.specs.declared.values.Context.{Context}
use Rattle.signal_frames.specs.Frames.{frame_bytes, told_stack}
use Rattle.signal_frames.specs.Places.{frame_size}

-- where the frame of a return stands: on i386 the handler has taken its return address, and a plain one its signal too
abbrev pub return_at : Bool → Registers → ℕ
return_at false (Ia32 r) = (slice_index r 7 + 0xfffffff8) % 2 ^ 32
return_at true (Ia32 r) = (slice_index r 7 + 0xfffffffc) % 2 ^ 32
return_at informed (Arm r) = slice_index r 13

-- an Arm return needs a stack pointer that is a multiple of 8
abbrev pub is_aligned : Registers → Bool
is_aligned (Ia32 r) = true
is_aligned (Arm r) = slice_index r 13 % 8 == 0

-- the flags that a process may change are the frame's, and all others stay
abbrev pub returned_flags : ℕ → ℕ → ℕ
returned_flags saved now = bit_or (bit_and saved 0x50dd5) (bit_and now 0xfffaf22a)

-- a word of cpsr as a process may have it: its flags, IT, GE and Thumb bits, in user mode
abbrev pub returned_cpsr : ℕ → ℕ
returned_cpsr saved = bit_or (bit_and saved 0xfe0ffc20) 0x10

-- saved registers as a return sets them
abbrev pub resumed : Registers → Registers → Registers
resumed (Ia32 saved) (Ia32 now) = Ia32 (slice_set saved 9 (returned_flags (slice_index saved 9) (slice_index now 9)))
resumed (Ia32 saved) (Arm now) = Arm now
resumed (Arm saved) (Ia32 now) = Ia32 now
resumed (Arm saved) (Arm now) = Arm (slice_set saved 16 (returned_cpsr (slice_index saved 16)))

-- what a frame restores, with or without information
abbrev pub context_in : AbiKind → Bool → List ℕ → Context
context_in abi.Ia32 false bytes =
    let frame = value_of ia32.plain_frame 4 bytes in record { registers = Ia32 frame.registers; mask = frame.mask; stack = None }
context_in abi.Ia32 true bytes =
    let frame = value_of ia32.frame 4 bytes in record { registers = Ia32 frame.registers; mask = frame.mask; stack = Some frame.stack }
context_in abi.ArmEabi false bytes =
    let frame = value_of arm.plain_frame 8 bytes in record { registers = Arm frame.registers; mask = frame.mask; stack = None }
context_in abi.ArmEabi true bytes =
    let frame = value_of arm.frame 8 bytes in record { registers = Arm frame.registers; mask = frame.mask; stack = Some frame.stack }

-- the alternate stack is set as sigaltstack sets it at a stack pointer, and what that refuses leaves it
abbrev pub with_stack : Kernel → ℕ → Option Stack32 → Kernel
with_stack k sp None = k
with_stack k sp (Some stack) = (native.alt_stack k sp (Some (record { base = stack.base; size = stack.size })) stack.flags).1

-- registers, mask and alternate stack are restored, in this order
abbrev pub resume : Registers → Kernel → Context → Registers × Kernel
resume now k c =
    let r = resumed c.registers now in (r, with_stack (native.with_mask k c.mask) (stack_pointer_in r) c.stack)

-- a return at a frame that can be read; else the process ends by SIGSEGV, 11, and its registers stay
unfoldable pub returned : Bool → Registers → List PageState → Kernel → Registers × Kernel
returned informed r m k =
    if is_aligned r && is_readable m (return_at informed r) (frame_size (kind_in r) informed)
    then resume r k (context_in (kind_in r) informed (bytes_at m (return_at informed r) (frame_size (kind_in r) informed)))
    else (r, native.finish k (end.Signal 11))

-- words below 2^32, as many as the kind has registers
abbrev pub AreRegisters : ℕ → List ℕ → Type 0
AreRegisters n r = (length r ≡ n) × AllByRecursion (λ (x : ℕ). x < 2 ^ 32) r

abbrev pub IsSaved : Registers → Registers → Type 0
IsSaved (Ia32 saved) (Ia32 now) = AreRegisters 10 saved
IsSaved (Ia32 saved) (Arm now) = ⊥
IsSaved (Arm saved) (Ia32 now) = ⊥
IsSaved (Arm saved) (Arm now) = AreRegisters 17 saved

-- a told stack whose words fit
abbrev pub IsToldStack : Stack32 → Type 0
IsToldStack s = (stack : AltStack) × (sp : ℕ) × (stack.base < 2 ^ 32) × (stack.size < 2 ^ 32) × (s ≡ told_stack stack sp)

abbrev pub told_of : Bool → Stack32 → Option Stack32
told_of false stack = None
told_of true stack = Some stack

-- A return at an intact frame, whichever call put it: where the bytes at the frame's address are those of a frame for saved
-- registers, mask and alternate stack, these are restored.
abbrev pub Restores : Bool → Registers → List PageState → Kernel → Registers × Kernel → Type 0
Restores informed now m k after =
    (saved : Registers) (info : SigInfo) (mask : ℕ) (stack : Stack32) (word at : ℕ)
    → IsSaved saved now → mask < 2 ^ 64 → IsToldStack stack → is_aligned now ≡ true
    → is_readable m (return_at informed now) (frame_size (kind_in now) informed) ≡ true
    → frame_bytes informed saved info mask stack word at ≡ Some (bytes_at m (return_at informed now) (frame_size (kind_in now) informed))
    → after ≡ resume now k (record { registers = saved; mask = mask; stack = told_of informed stack })
