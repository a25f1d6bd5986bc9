-- The calls that set and tell which signals are blocked, and which of those wait. The new mask stands also where the old one can't be stored.
use Rattle.std.specs.Prelude.{nat_lt, take, option_map, Ok, Err, if◌then◌else◌, false, true}
use Rattle.std.specs.Int.{w64, to_le_bytes}
use Rattle.kernel_values.specs.declared.errno.Errno.TheVariants.{InvalidArgument}
use Rattle.kernel_values.specs.declared.signals.SignalSet.{SignalSet}
use Rattle.native_kernel.specs.declared.state.Kernel.{Kernel}
use Rattle.native_kernel.specs.Operations as native
use Rattle.abi_registers.specs.declared.arguments.Args.{Args}
use Rattle.abi_registers.specs.Values.{signed, word}
use Rattle.layout_laws.specs.Abis.{AbiRules}
use Rattle.signal_layouts.specs.declared.sets.SignalSet32.{SignalSet32}
use Rattle.signal_layouts.specs.declared.sets.SignalSet64.{SignalSet64}
use Rattle.signal_layouts.specs.Sets.{set_32, set_64}
use Rattle.served_calls.specs.Bytes.{stores_bytes}
use Rattle.served_calls.specs.Calls.{Call, Memory, gives_word, on_fetched, optional, ◌>>◌}
use Rattle.served_calls.specs.Shapes.{optional_shape_at, stores}
use Rattle.signal_calls.specs.Sets.{if_whole_set}

-- sigprocmask(how, set, old) reads, changes and tells the signals up to 32 alone
unfoldable pub sigprocmask : AbiRules → Args → Memory → Kernel → Call Kernel SignalSet
sigprocmask abi args m k = record {
  operation = on_fetched k (optional_shape_at set_32 abi m (word args 1)) (λ set. native.change_mask k (signed args 0) (option_map (λ (x : SignalSet32). x.set) set) true);
  deliver = λ old. optional (word args 2) (stores set_32 abi (word args 2) (record { set = old })) >> gives_word 0;
  keeps = true;
}

-- rt_sigprocmask(how, set, old, size)
unfoldable pub rt_sigprocmask : AbiRules → Args → Memory → Kernel → Call Kernel SignalSet
rt_sigprocmask abi args m k = record {
  operation = if_whole_set (word args 3) k (on_fetched k (optional_shape_at set_64 abi m (word args 1)) (λ set. native.change_mask k (signed args 0) (option_map (λ (x : SignalSet64). x.set) set) false));
  deliver = λ old. optional (word args 2) (stores set_64 abi (word args 2) (record { set = old })) >> gives_word 0;
  keeps = true;
}

-- rt_sigpending(set, size): as many bytes of the set as are asked for, at most 8
unfoldable pub rt_sigpending : AbiRules → Args → Memory → Kernel → Call Kernel SignalSet
rt_sigpending abi args m k = record {
  operation = if nat_lt 8 (word args 1) then (Err InvalidArgument, k) else (Ok (native.pending k), k);
  deliver = λ set. stores_bytes (word args 0) (take (word args 1) (to_le_bytes w64 set.bits)) >> gives_word 0;
  keeps = false;
}
