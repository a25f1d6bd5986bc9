-- The calls that set and tell the interval timer. The new value stands also where the old one can't be stored.
use Rattle.std.specs.Prelude.{Option, Some, None, false, true}
use Rattle.kernel_values.specs.declared.times.TimerValue.{TimerValue}
use Rattle.native_kernel.specs.declared.state.Kernel.{Kernel}
use Rattle.native_kernel.specs.Operations as native
use Rattle.abi_registers.specs.declared.arguments.Args.{Args}
use Rattle.abi_registers.specs.Values.{signed, word}
use Rattle.layout_laws.specs.Abis.{AbiRules}
use Rattle.signal_clock.specs.Timers.{no_timer}
use Rattle.time_layouts.specs.declared.times.TimerValue32.{TimerValue32}
use Rattle.time_layouts.specs.Times.{timer_value}
use Rattle.served_calls.specs.Calls.{Call, Memory, gives_word, on_fetched, optional, ◌>>◌}
use Rattle.served_calls.specs.Shapes.{optional_shape_at, stores}

-- getitimer(which, value)
unfoldable pub getitimer : AbiRules → Args → Memory → Kernel → Call Kernel TimerValue
getitimer abi args m k = record {
  operation = (native.timer k (signed args 0), k);
  deliver = λ held. stores timer_value abi (word args 1) (record { timer = held }) >> gives_word 0;
  keeps = false;
}

-- without a value the timer is disarmed
abbrev pub timer_asked : Option TimerValue32 → TimerValue
timer_asked None = no_timer
timer_asked (Some new) = new.timer

-- setitimer(which, new, old)
unfoldable pub setitimer : AbiRules → Args → Memory → Kernel → Call Kernel TimerValue
setitimer abi args m k = record {
  operation = on_fetched k (optional_shape_at timer_value abi m (word args 1)) (λ new. native.set_timer k (signed args 0) (timer_asked new));
  deliver = λ old. optional (word args 2) (stores timer_value abi (word args 2) (record { timer = old })) >> gives_word 0;
  keeps = true;
}
