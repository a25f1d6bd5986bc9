-- The bytes of a frame.
use Rattle.std.specs.Prelude.{ℕ, ◌+◌, pos, Bool, true, false, List, Option}
use Rattle.kernel_values.specs.declared.signals.AltStack.{AltStack}
use Rattle.kernel_values.specs.declared.signals.SigInfo.{SigInfo}
use Rattle.abi_registers.specs.declared.registers.Registers.{Registers}
use Rattle.abi_registers.specs.declared.registers.Registers.TheVariants.{Ia32, Arm}
use Rattle.layout_laws.specs.Shapes.{spelling_of}
use Rattle.signal_clock.specs.Stacks.{stack_flags}
use Rattle.signal_clock.specs.declared.values.Taken.{Taken}
use Rattle.signal_layouts.specs.declared.stacks.Stack32.{Stack32}
use Rattle.signal_layouts.specs.declared.ia32.Ia32Frame.{Ia32Frame}
use Rattle.signal_layouts.specs.declared.ia32.Ia32PlainFrame.{Ia32PlainFrame}
use Rattle.signal_layouts.specs.declared.arm.ArmFrame.{ArmFrame}
use Rattle.signal_layouts.specs.declared.arm.ArmPlainFrame.{ArmPlainFrame}
use Rattle.signal_layouts.specs.Ia32 as ia32
use Rattle.signal_layouts.specs.Arm as arm
use Rattle.signal_frames.specs.Places.{is_informed}

-- the alternate stack as it is told at a stack pointer
abbrev pub told_stack : AltStack → ℕ → Stack32
told_stack stack sp = record { base = stack.base; flags = pos (stack_flags stack sp); size = stack.size }

abbrev pub ia32_plain : List ℕ → SigInfo → ℕ → ℕ → Ia32PlainFrame
ia32_plain r info mask word = record { return_address = word; signal = info.signal; registers = r; mask = mask }

abbrev pub ia32_informed : List ℕ → SigInfo → ℕ → Stack32 → ℕ → ℕ → Ia32Frame
ia32_informed r info mask stack word at = record {
  return_address = word;
  info_at = at + 16;
  context_at = at + 144;
  info = info;
  stack = stack;
  registers = r;
  mask = mask;
}

abbrev pub arm_plain : List ℕ → ℕ → ArmPlainFrame
arm_plain r mask = record { registers = r; mask = mask }

abbrev pub arm_informed : List ℕ → SigInfo → ℕ → Stack32 → ArmFrame
arm_informed r info mask stack = record { info = info; stack = stack; registers = r; mask = mask }

-- the frame at an address: the registers that it saves, the information, the mask, the alternate stack as it is told, and where
-- the handler returns to
unfoldable pub frame_bytes : Bool → Registers → SigInfo → ℕ → Stack32 → ℕ → ℕ → Option (List ℕ)
frame_bytes false (Ia32 r) info mask stack word at = spelling_of ia32.plain_frame 4 (ia32_plain r info mask word)
frame_bytes true (Ia32 r) info mask stack word at = spelling_of ia32.frame 4 (ia32_informed r info mask stack word at)
frame_bytes false (Arm r) info mask stack word at = spelling_of arm.plain_frame 8 (arm_plain r mask)
frame_bytes true (Arm r) info mask stack word at = spelling_of arm.frame 8 (arm_informed r info mask stack)

-- the frame of a signal that was taken: its mask is that from before it was taken
abbrev pub frame_for : Registers → Taken → Stack32 → ℕ → ℕ → Option (List ℕ)
frame_for r t stack word at = frame_bytes (is_informed t.action) r t.info t.mask_before.bits stack word at
