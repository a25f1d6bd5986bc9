-- The calls that accept connections.
use Rattle.std.specs.Prelude.{ℕ, List, false, Option, Result, Ok, Err}
use Rattle.kernel_values.specs.Outcome as outcome
use Rattle.kernel_values.specs.declared.errno.Errno.{Errno}
use Rattle.open_files.specs.declared.accepting.Accepted.{Accepted}
use Rattle.native_kernel.specs.declared.state.Kernel.{Kernel}
use Rattle.native_kernel.specs.Operations as native
use Rattle.abi_registers.specs.declared.arguments.Args.{Args}
use Rattle.abi_registers.specs.Values.{signed, word}
use Rattle.layout_laws.specs.Abis.{AbiRules}
use Rattle.served_calls.specs.Calls.{Call, Memory, gives_word, on_fetched, ◌>>◌}
use Rattle.message_calls.specs.Fetching.{flag_word, opened, optional_room, stores_optional_address}

-- the room for the peer's address, where that is asked for, and for a descriptor that is open
abbrev pub room_asked : AbiRules → Args → Memory → Kernel → Result (Option ℕ) Errno
room_asked abi args m k = outcome.◌>>◌ (opened k (signed args 0)) (optional_room abi m (word args 1) (word args 2))

-- what was accepted, with the room for its address
abbrev pub and_room : Option ℕ → Result Accepted Errno × Kernel → Result (Option ℕ × Accepted) Errno × Kernel
and_room room (Ok a, k) = (Ok (room, a), k)
and_room room (Err e, k) = (Err e, k)

-- An accept with flags. Where the address or its length can't be stored, the connection waits on and there is no descriptor.
unfoldable pub accepting : ℕ → AbiRules → Args → Memory → Kernel → Call Kernel (Option ℕ × Accepted)
accepting flags abi args m k = record {
  operation = on_fetched k (room_asked abi args m k) (λ room. and_room room (native.accept k (signed args 0) flags));
  deliver = λ x. stores_optional_address abi (word args 1) (word args 2) x.0 x.1.peer >> gives_word x.1.number;
  keeps = false;
}

-- accept(descriptor, address, length)
abbrev pub accept : AbiRules → Args → Memory → Kernel → Call Kernel (Option ℕ × Accepted)
accept abi args m k = accepting 0 abi args m k

-- accept4(descriptor, address, length, flags)
abbrev pub accept4 : AbiRules → Args → Memory → Kernel → Call Kernel (Option ℕ × Accepted)
accept4 abi args m k = accepting (flag_word args 3) abi args m k
