-- The calls that tell what sockets are called.
use Rattle.std.specs.Prelude.{ℕ, ℤ, List, false, Result, Ok}
use Rattle.kernel_values.specs.Outcome.{◌>>=◌, ◌>>◌}
use Rattle.kernel_values.specs.declared.errno.Errno.{Errno}
use Rattle.native_kernel.specs.declared.state.Kernel.{Kernel}
use Rattle.native_kernel.specs.Operations as native
use Rattle.abi_registers.specs.declared.arguments.Args.{Args}
use Rattle.abi_registers.specs.Values.{signed, word}
use Rattle.layout_laws.specs.Abis.{AbiRules}
use Rattle.served_calls.specs.Calls as calls
use Rattle.served_calls.specs.Calls.{Call, Memory, gives_word}
use Rattle.message_calls.specs.Fetching.{opened, room_in, stores_address}

-- a name, and the room for its address; the room is looked at before the socket
abbrev pub with_room : AbiRules → Args → Memory → Kernel → (Kernel → ℤ → Result (List ℕ) Errno) → Result (ℕ × List ℕ) Errno
with_room abi args m k name_of = do
  opened k (signed args 0)
  room ← room_in abi m (word args 2)
  name ← name_of k (signed args 0)
  Ok (room, name)

-- getsockname(descriptor, address, length)
unfoldable pub getsockname : AbiRules → Args → Memory → Kernel → Call Kernel (ℕ × List ℕ)
getsockname abi args m k = record {
  operation = (with_room abi args m k native.own_name, k);
  deliver = λ x. calls.◌>>◌ (stores_address abi (word args 1) (word args 2) x.0 x.1) (gives_word 0);
  keeps = false;
}

-- getpeername(descriptor, address, length)
unfoldable pub getpeername : AbiRules → Args → Memory → Kernel → Call Kernel (ℕ × List ℕ)
getpeername abi args m k = record {
  operation = (with_room abi args m k native.peer_name, k);
  deliver = λ x. calls.◌>>◌ (stores_address abi (word args 1) (word args 2) x.0 x.1) (gives_word 0);
  keeps = false;
}
