-- The choice among the calls on sockets: a line for each tells what serves it, and whether memory may be wanting for it.
use Rattle.native_kernel.specs.declared.state.Kernel.{Kernel}
use Rattle.abi_registers.specs.declared.arguments.Args.{Args}
use Rattle.layout_laws.specs.Abis.{AbiRules}
use Rattle.call_tables.specs.declared.operation.SocketOperation.{SocketOperation}
use Rattle.call_tables.specs.declared.operation.SocketOperation.TheVariants.{Accept, Accept4, Bind, Connect, Getpeername, Getsockname, Listen, Shutdown, Socket, Socketpair}
use Rattle.served_calls.specs.Calls.{Memory, Service, served, spare, taking}
use Rattle.message_calls.specs.Accepting as accepting
use Rattle.message_calls.specs.Making as making
use Rattle.message_calls.specs.Meeting as meeting
use Rattle.message_calls.specs.Naming as naming

unfoldable pub socket_service : SocketOperation → AbiRules → Args → Memory → Kernel → Service Kernel
socket_service Accept abi args m k = taking (served (accepting.accept abi args) m k)
socket_service Accept4 abi args m k = taking (served (accepting.accept4 abi args) m k)
socket_service Bind abi args m k = taking (served (meeting.bind abi args) m k)
socket_service Connect abi args m k = taking (served (meeting.connect abi args) m k)
socket_service Getpeername abi args m k = spare (served (naming.getpeername abi args) m k)
socket_service Getsockname abi args m k = spare (served (naming.getsockname abi args) m k)
socket_service Listen abi args m k = spare (served (meeting.listen abi args) m k)
socket_service Shutdown abi args m k = spare (served (meeting.shutdown abi args) m k)
socket_service Socket abi args m k = taking (served (making.socket abi args) m k)
socket_service Socketpair abi args m k = taking (served (making.socketpair abi args) m k)
