-- The choice among the calls on signals: a line for each tells what serves it. None takes memory, and sigaltstack alone looks at the
-- stack pointer of the caller.
use Rattle.std.specs.Prelude.{ℕ}
use Rattle.native_kernel.specs.declared.state.Kernel.{Kernel}
use Rattle.abi_registers.specs.declared.arguments.Args.{Args}
use Rattle.layout_laws.specs.Abis.{AbiRules}
use Rattle.call_tables.specs.declared.operation.SignalOperation.{SignalOperation}
use Rattle.call_tables.specs.declared.operation.SignalOperation.TheVariants.{Getitimer, Kill, RtSigaction, RtSigpending, RtSigprocmask, RtSigqueueinfo, Setitimer, Sigaction, Sigaltstack, Sigprocmask}
use Rattle.served_calls.specs.Calls.{Memory, Service, served, spare}
use Rattle.signal_calls.specs.Actions as actions
use Rattle.signal_calls.specs.Masks as masks
use Rattle.signal_calls.specs.Sending as sending
use Rattle.signal_calls.specs.Stacks as stacks
use Rattle.signal_calls.specs.Timers as timers

unfoldable pub signal_service : SignalOperation → ℕ → AbiRules → Args → Memory → Kernel → Service Kernel
signal_service Getitimer sp abi args m k = spare (served (timers.getitimer abi args) m k)
signal_service Kill sp abi args m k = spare (served (sending.kill abi args) m k)
signal_service RtSigaction sp abi args m k = spare (served (actions.rt_sigaction abi args) m k)
signal_service RtSigpending sp abi args m k = spare (served (masks.rt_sigpending abi args) m k)
signal_service RtSigprocmask sp abi args m k = spare (served (masks.rt_sigprocmask abi args) m k)
signal_service RtSigqueueinfo sp abi args m k = spare (served (sending.rt_sigqueueinfo abi args) m k)
signal_service Setitimer sp abi args m k = spare (served (timers.setitimer abi args) m k)
signal_service Sigaction sp abi args m k = spare (served (actions.sigaction abi args) m k)
signal_service Sigaltstack sp abi args m k = spare (served (stacks.sigaltstack sp abi args) m k)
signal_service Sigprocmask sp abi args m k = spare (served (masks.sigprocmask abi args) m k)
