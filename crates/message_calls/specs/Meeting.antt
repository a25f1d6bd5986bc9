-- The calls by which sockets come together, and by which they stop.
use Rattle.std.specs.Prelude.{ℕ, List, false, Result, ⊤}
use Rattle.kernel_values.specs.Outcome as outcome
use Rattle.kernel_values.specs.declared.errno.Errno.{Errno}
use Rattle.native_kernel.specs.declared.state.Kernel.{Kernel}
use Rattle.native_kernel.specs.Operations as native
use Rattle.abi_registers.specs.declared.arguments.Args.{Args}
use Rattle.abi_registers.specs.Values.{signed, word}
use Rattle.layout_laws.specs.Abis.{AbiRules}
use Rattle.served_calls.specs.Calls.{Call, Memory, gives_word, on_fetched}
use Rattle.message_calls.specs.Fetching.{address_at, opened}

-- the name that bind and connect are given, for a descriptor that is open
abbrev pub name_given : Args → Memory → Kernel → Result (List ℕ) Errno
name_given args m k = outcome.◌>>◌ (opened k (signed args 0)) (address_at m (word args 1) (signed args 2))

-- bind(descriptor, address, length)
unfoldable pub bind : AbiRules → Args → Memory → Kernel → Call Kernel ⊤
bind abi args m k = record {
  operation = on_fetched k (name_given args m k) (λ name. native.bind k (signed args 0) name);
  deliver = λ _. gives_word 0;
  keeps = false;
}

-- connect(descriptor, address, length)
unfoldable pub connect : AbiRules → Args → Memory → Kernel → Call Kernel ⊤
connect abi args m k = record {
  operation = on_fetched k (name_given args m k) (λ name. native.connect k (signed args 0) name);
  deliver = λ _. gives_word 0;
  keeps = false;
}

-- listen(descriptor, backlog)
unfoldable pub listen : AbiRules → Args → Memory → Kernel → Call Kernel ⊤
listen abi args m k = record {
  operation = native.listen k (signed args 0) (signed args 1);
  deliver = λ _. gives_word 0;
  keeps = false;
}

-- shutdown(descriptor, how)
unfoldable pub shutdown : AbiRules → Args → Memory → Kernel → Call Kernel ⊤
shutdown abi args m k = record {
  operation = native.shut k (signed args 0) (signed args 1);
  deliver = λ _. gives_word 0;
  keeps = false;
}
