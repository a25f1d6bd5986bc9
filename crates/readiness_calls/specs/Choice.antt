-- The choice among the calls on readiness: a line for each tells what serves it. None takes memory.
use Rattle.native_kernel.specs.declared.state.Kernel.{Kernel}
use Rattle.abi_registers.specs.declared.arguments.Args.{Args}
use Rattle.layout_laws.specs.Abis.{AbiRules}
use Rattle.call_tables.specs.declared.operation.ReadinessOperation.{ReadinessOperation}
use Rattle.call_tables.specs.declared.operation.ReadinessOperation.TheVariants.{Newselect, Poll}
use Rattle.served_calls.specs.Calls.{Memory, Service, served, spare}
use Rattle.readiness_calls.specs.Polls as polls
use Rattle.readiness_calls.specs.Selects as selects

unfoldable pub readiness_service : ReadinessOperation → AbiRules → Args → Memory → Kernel → Service Kernel
readiness_service Newselect abi args m k = spare (served (selects.newselect abi args) m k)
readiness_service Poll abi args m k = spare (served (polls.poll abi args) m k)
