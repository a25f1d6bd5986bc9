-- The choice among all calls: a line for each tells what serves it, and whether memory may be wanting for it.
use Rattle.std.specs.Prelude.{ℕ, Err}
use Rattle.kernel_values.specs.declared.errno.Errno.TheVariants.{NoCall}
use Rattle.native_kernel.specs.declared.state.Kernel.{Kernel}
use Rattle.abi_registers.specs.declared.arguments.Args.{Args}
use Rattle.layout_laws.specs.Abis.{AbiRules}
use Rattle.call_tables.specs.declared.operation.Operation.{Operation}
use Rattle.call_tables.specs.declared.operation.Operation.TheVariants.{Files, Readiness, Sockets, Times, Limits, Identity, Signals, Returns}
use Rattle.call_tables.specs.declared.operation.TimeOperation.{TimeOperation}
use Rattle.call_tables.specs.declared.operation.TimeOperation.TheVariants.{ClockGetres, ClockGettime, ClockNanosleep, ClockSettime, Gettimeofday, Nanosleep}
use Rattle.call_tables.specs.declared.operation.LimitOperation.{LimitOperation}
use Rattle.call_tables.specs.declared.operation.LimitOperation.TheVariants.{Prlimit64, Setrlimit, Ugetrlimit}
use Rattle.call_tables.specs.declared.operation.IdentityOperation.{IdentityOperation}
use Rattle.call_tables.specs.declared.operation.IdentityOperation.TheVariants.{Exit, ExitGroup, Getgid32, Getpid, Getrusage, Getuid32}
use Rattle.served_calls.specs.Calls.{Memory, Service, served, spare}
use Rattle.readiness_calls.specs.Choice.{readiness_service}
use Rattle.file_calls.specs.Choice.{file_need, file_service}
use Rattle.message_calls.specs.Choice.{socket_service}
use Rattle.signal_calls.specs.Choice.{signal_service}
use Rattle.compat_calls.specs.Identity as identity
use Rattle.compat_calls.specs.Limits as limits
use Rattle.compat_calls.specs.Times as times

unfoldable pub time_service : TimeOperation → AbiRules → Args → Memory → Kernel → Service Kernel
time_service ClockGetres abi args m k = spare (served (times.clock_getres abi args) m k)
time_service ClockGettime abi args m k = spare (served (times.clock_gettime abi args) m k)
time_service ClockNanosleep abi args m k = spare (served (times.clock_nanosleep abi args) m k)
time_service ClockSettime abi args m k = spare (served (times.clock_settime abi args) m k)
time_service Gettimeofday abi args m k = spare (served (times.gettimeofday abi args) m k)
time_service Nanosleep abi args m k = spare (served (times.nanosleep abi args) m k)

unfoldable pub limit_service : LimitOperation → AbiRules → Args → Memory → Kernel → Service Kernel
limit_service Prlimit64 abi args m k = spare (served (limits.prlimit64 abi args) m k)
limit_service Setrlimit abi args m k = spare (served (limits.setrlimit abi args) m k)
limit_service Ugetrlimit abi args m k = spare (served (limits.ugetrlimit abi args) m k)

unfoldable pub identity_service : IdentityOperation → AbiRules → Args → Memory → Kernel → Service Kernel
identity_service Exit abi args m k = spare (served (identity.exit abi args) m k)
identity_service ExitGroup abi args m k = spare (served (identity.exit abi args) m k)
identity_service Getgid32 abi args m k = spare (served (identity.getgid32 abi args) m k)
identity_service Getpid abi args m k = spare (served (identity.getpid abi args) m k)
identity_service Getrusage abi args m k = spare (served (identity.getrusage abi args) m k)
identity_service Getuid32 abi args m k = spare (served (identity.getuid32 abi args) m k)

-- The calls on signals alone look at the stack pointer of the caller. A return from a handler sets registers and answers nothing, so that
-- none is served here.
unfoldable pub call_service : Operation → ℕ → AbiRules → Args → Memory → Kernel → Service Kernel
call_service (Files call) sp abi args m k = file_service call abi args m k
call_service (Readiness call) sp abi args m k = readiness_service call abi args m k
call_service (Sockets call) sp abi args m k = socket_service call abi args m k
call_service (Times call) sp abi args m k = time_service call abi args m k
call_service (Limits call) sp abi args m k = limit_service call abi args m k
call_service (Identity call) sp abi args m k = identity_service call abi args m k
call_service (Signals call) sp abi args m k = signal_service call sp abi args m k
call_service (Returns call) sp abi args m k = spare (Err NoCall, (m, k))

-- how many bytes of the region for translation the call takes
unfoldable pub call_need : Operation → Args → Kernel → ℕ
call_need (Files call) args k = file_need call args k
call_need (Readiness call) args k = 0
call_need (Sockets call) args k = 0
call_need (Times call) args k = 0
call_need (Limits call) args k = 0
call_need (Identity call) args k = 0
call_need (Signals call) args k = 0
call_need (Returns call) args k = 0
