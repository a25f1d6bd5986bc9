-- The calls that make sockets.
use Rattle.std.specs.Prelude.{ℕ, false}
use Rattle.native_kernel.specs.declared.state.Kernel.{Kernel}
use Rattle.native_kernel.specs.Operations as native
use Rattle.abi_registers.specs.declared.arguments.Args.{Args}
use Rattle.abi_registers.specs.Values.{signed, word}
use Rattle.layout_laws.specs.Abis.{AbiRules}
use Rattle.file_layouts.specs.Descriptors.{descriptor_pair}
use Rattle.served_calls.specs.Calls.{Call, Memory, gives_word, ◌>>◌}
use Rattle.served_calls.specs.Shapes.{stores}
use Rattle.message_calls.specs.Fetching.{flag_word}

-- socket(domain, type, protocol)
unfoldable pub socket : AbiRules → Args → Memory → Kernel → Call Kernel ℕ
socket abi args m k = record {
  operation = native.socket k (signed args 0) (flag_word args 1) (signed args 2);
  deliver = gives_word;
  keeps = false;
}

-- socketpair(domain, type, protocol, place): both descriptors, or EFAULT and no sockets
unfoldable pub socketpair : AbiRules → Args → Memory → Kernel → Call Kernel (ℕ × ℕ)
socketpair abi args m k = record {
  operation = native.socket_pair k (signed args 0) (flag_word args 1) (signed args 2);
  deliver = λ n. stores descriptor_pair abi (word args 3) (record { first = n.0; second = n.1 }) >> gives_word 0;
  keeps = false;
}
