-- One call of a process, whole.
use Rattle.std.specs.Prelude.{◌≡◌, ℕ, max, Bool, true, false, Option, Some, None, Result, Ok, Err}
use Rattle.kernel_values.specs.Errno.{errno_word}
use Rattle.kernel_values.specs.declared.errno.Errno.{Errno}
use Rattle.kernel_values.specs.declared.errno.Errno.TheVariants.{NoCall}
use Rattle.kernel_values.specs.declared.errno.OutOfMemory.{OutOfMemory}
use Rattle.native_kernel.specs.declared.state.Kernel.{Kernel}
use Rattle.native_kernel.specs.Operations.{end_of}
use Rattle.kernel_values.specs.declared.process_end.End.{End}
use Rattle.abi_registers.specs.declared.registers.Registers.{Registers}
use Rattle.abi_registers.specs.Arguments.{args_of}
use Rattle.abi_registers.specs.Places.{kind_in, number_in, stack_pointer_in, words_in, with_result}
use Rattle.layout_laws.specs.Abis.{AbiRules, rules_of}
use Rattle.call_tables.specs.declared.operation.Operation.{Operation}
use Rattle.call_tables.specs.declared.operation.Operation.TheVariants.{Files, Readiness, Sockets, Times, Limits, Identity, Signals, Returns}
use Rattle.call_tables.specs.declared.operation.ReturnOperation.{ReturnOperation}
use Rattle.call_tables.specs.declared.operation.ReturnOperation.TheVariants.{RtSigreturn, Sigreturn}
use Rattle.call_tables.specs.Rows.{CallRow, row}
use Rattle.signal_frames.specs.Delivery.{State, delivered}
use Rattle.signal_frames.specs.Returns.{returned}
use Rattle.served_calls.specs.Calls.{Memory, Served, Service, spare}
use Rattle.compat_calls.specs.declared.world.World.{World}
use Rattle.compat_calls.specs.Choice.{call_need, call_service}

-- the registers and the world after a call
abbrev pub Trapped : Type 0
Trapped = Registers × World

-- what serves a row with the words of the registers; a number without a row is no call
abbrev pub by_row : AbiRules → Registers → Memory → Kernel → Option CallRow → Service Kernel
by_row abi r m k None = spare (Err NoCall, (m, k))
by_row abi r m k (Some row) = call_service row.operation (stack_pointer_in r) abi (args_of (kind_in r) (words_in r) row.forms) m k

unfoldable pub service_of : AbiRules → Registers → Memory → Kernel → Service Kernel
service_of abi r m k = by_row abi r m k (row (kind_in r) (number_in r))

-- how many bytes of the region for translation a row takes
abbrev pub row_need : Registers → Kernel → Option CallRow → ℕ
row_need r k None = 0
row_need r k (Some row) = call_need row.operation (args_of (kind_in r) (words_in r) row.forms) k

unfoldable pub need_of : Registers → Kernel → ℕ
need_of r k = row_need r k (row (kind_in r) (number_in r))

-- whether memory may be wanting for the call of these registers
unfoldable pub may_want : Registers → World → Bool
may_want r w = (service_of (rules_of (kind_in r)) r w.memory w.kernel).takes

abbrev pub result_word : Result ℕ Errno → ℕ
result_word (Ok w) = w
result_word (Err e) = errno_word e

-- the result is put, but into the registers of a process that has ended
abbrev pub answered_registers : Registers → Result ℕ Errno → Option End → Registers
answered_registers r answer None = with_result r (result_word answer)
answered_registers r answer (Some end) = r

-- the world and the registers that a served call leaves; of the region is kept the most that a call has taken
abbrev pub left_by : Registers → World → ℕ → Served Kernel → Trapped
left_by r w need s = (answered_registers r s.0 (end_of s.1.1), record w { memory = s.1.0; kernel = s.1.1; region = max w.region need })

-- every call but a return from a handler: its row's call, or no call, and then the result in its place
unfoldable pub answered : Registers → World → Trapped
answered r w = left_by r w (need_of r w.kernel) (service_of (rules_of (kind_in r)) r w.memory w.kernel).outcome

-- the return from a handler that a row asks for
abbrev pub return_of : Operation → Option ReturnOperation
return_of (Files call) = None
return_of (Readiness call) = None
return_of (Sockets call) = None
return_of (Times call) = None
return_of (Limits call) = None
return_of (Identity call) = None
return_of (Signals call) = None
return_of (Returns call) = Some call

abbrev pub row_return : Option CallRow → Option ReturnOperation
row_return None = None
row_return (Some row) = return_of row.operation

unfoldable pub return_called : Registers → Option ReturnOperation
return_called r = row_return (row (kind_in r) (number_in r))

-- the frame of rt_sigreturn has information, that of sigreturn has none
abbrev pub is_informed : ReturnOperation → Bool
is_informed RtSigreturn = true
is_informed Sigreturn = false

-- a return sets registers and kernel, and puts no result
abbrev pub set_by : World → Registers × Kernel → Trapped
set_by w after = (after.0, record w { kernel = after.1 })

abbrev pub called_by : Option ReturnOperation → Registers → World → Trapped
called_by None r w = answered r w
called_by (Some call) r w = set_by w (returned (is_informed call) r w.memory w.kernel)

-- one call, before signals are taken
unfoldable pub called : Registers → World → Trapped
called r w = called_by (return_called r) r w

-- the world and the registers after signals were delivered
abbrev pub signalled : World → State → Trapped
signalled w s = (s.0, record w { memory = s.1.0; kernel = s.1.1 })

abbrev pub then_signals : Trapped → Trapped
then_signals t = signalled t.1 (delivered t.1.restorer t.0 t.1.memory t.1.kernel)

-- One call of a process, whole: the call, also where it is refused or unknown, and then each signal that can be delivered. Of a
-- process that has ended none can be.
unfoldable pub trapped : Registers → World → Trapped
trapped r w = then_signals (called r w)

-- A trap left the registers and the world of its definition. Want of memory comes only where it may.
abbrev pub Traps : Bool → Result Registers OutOfMemory → World → Trapped → Type 0
Traps takes (Ok r) world defined = defined ≡ (r, world)
Traps takes (Err e) world defined = takes ≡ true
