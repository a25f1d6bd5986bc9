-- The calls that set and tell what a signal does. The new action stands also where the old one can't be stored.
use Rattle.std.specs.Prelude.{true, option_map}
use Rattle.kernel_values.specs.declared.signals.Action.{Action}
use Rattle.native_kernel.specs.declared.state.Kernel.{Kernel}
use Rattle.native_kernel.specs.Operations as native
use Rattle.abi_registers.specs.declared.arguments.Args.{Args}
use Rattle.abi_registers.specs.Values.{signed, word}
use Rattle.layout_laws.specs.Abis.{AbiRules}
use Rattle.signal_layouts.specs.declared.actions.Action32.{Action32}
use Rattle.signal_layouts.specs.declared.actions.OldAction32.{OldAction32}
use Rattle.signal_layouts.specs.Actions.{action_32, old_action_32}
use Rattle.served_calls.specs.Calls.{Call, Memory, gives_word, on_fetched, optional, ◌>>◌}
use Rattle.served_calls.specs.Shapes.{optional_shape_at, stores}
use Rattle.signal_calls.specs.Sets.{if_whole_set}

-- sigaction(signal, new, old), whose masks have the signals up to 32 alone
unfoldable pub sigaction : AbiRules → Args → Memory → Kernel → Call Kernel Action
sigaction abi args m k = record {
  operation = on_fetched k (optional_shape_at old_action_32 abi m (word args 1)) (λ new. native.change_action k (signed args 0) (option_map (λ (x : OldAction32). x.action) new));
  deliver = λ old. optional (word args 2) (stores old_action_32 abi (word args 2) (record { action = old })) >> gives_word 0;
  keeps = true;
}

-- rt_sigaction(signal, new, old, size)
unfoldable pub rt_sigaction : AbiRules → Args → Memory → Kernel → Call Kernel Action
rt_sigaction abi args m k = record {
  operation = if_whole_set (word args 3) k (on_fetched k (optional_shape_at action_32 abi m (word args 1)) (λ new. native.change_action k (signed args 0) (option_map (λ (x : Action32). x.action) new)));
  deliver = λ old. optional (word args 2) (stores action_32 abi (word args 2) (record { action = old })) >> gives_word 0;
  keeps = true;
}
