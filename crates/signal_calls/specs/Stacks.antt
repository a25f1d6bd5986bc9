-- The call that sets and tells the alternate stack of handlers. The new stack stands also where the old one can't be stored.
use Rattle.std.specs.Prelude.{ℕ, pos, Option, Some, None, Result, true}
use Rattle.kernel_values.specs.declared.errno.Errno.{Errno}
use Rattle.kernel_values.specs.declared.signals.AltStack.{AltStack}
use Rattle.native_kernel.specs.declared.state.Kernel.{Kernel}
use Rattle.native_kernel.specs.Operations as native
use Rattle.abi_registers.specs.declared.arguments.Args.{Args}
use Rattle.abi_registers.specs.Values.{word}
use Rattle.layout_laws.specs.Abis.{AbiRules}
use Rattle.signal_frames.specs.Frames.{told_stack}
use Rattle.signal_layouts.specs.declared.stacks.Stack32.{Stack32}
use Rattle.signal_layouts.specs.Stacks.{stack_32}
use Rattle.served_calls.specs.Calls.{Call, Memory, gives_word, on_fetched, optional, ◌>>◌}
use Rattle.served_calls.specs.Shapes.{optional_shape_at, stores}

-- what is asked of the kernel at a stack pointer, with a new stack or with none
abbrev pub stack_asked : Kernel → ℕ → Option Stack32 → Result AltStack Errno × Kernel
stack_asked k sp None = native.alt_stack k sp None (pos 0)
stack_asked k sp (Some new) = native.alt_stack k sp (Some (record { base = new.base; size = new.size })) new.flags

-- sigaltstack(new, old): the stack is told as it was, with its flags at the stack pointer of the caller
unfoldable pub sigaltstack : ℕ → AbiRules → Args → Memory → Kernel → Call Kernel AltStack
sigaltstack sp abi args m k = record {
  operation = on_fetched k (optional_shape_at stack_32 abi m (word args 0)) (stack_asked k sp);
  deliver = λ old. optional (word args 1) (stores stack_32 abi (word args 1) (told_stack old sp)) >> gives_word 0;
  keeps = true;
}
