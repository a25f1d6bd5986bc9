-- The calls that set the length of a file.
use Rattle.std.specs.Prelude.{⊤, false}
use Rattle.native_kernel.specs.declared.state.Kernel.{Kernel}
use Rattle.native_kernel.specs.Operations as native
use Rattle.abi_registers.specs.declared.arguments.Args.{Args}
use Rattle.abi_registers.specs.Values.{signed, word}
use Rattle.layout_laws.specs.Abis.{AbiRules}
use Rattle.served_calls.specs.Calls.{Call, Memory, gives_word, on_fetched}
use Rattle.served_calls.specs.Bytes.{path_at}

-- truncate(path, length), and truncate64, whose length has two words
unfoldable pub truncate : AbiRules → Args → Memory → Kernel → Call Kernel ⊤
truncate abi args m k = record {
  operation = on_fetched k (path_at m (word args 0)) (λ path. native.truncate k path (signed args 1));
  deliver = λ _. gives_word 0;
  keeps = false;
}

-- ftruncate(descriptor, length), and ftruncate64
unfoldable pub ftruncate : AbiRules → Args → Memory → Kernel → Call Kernel ⊤
ftruncate abi args m k = record {
  operation = native.truncate_open k (signed args 0) (signed args 1);
  deliver = λ _. gives_word 0;
  keeps = false;
}

-- fallocate(descriptor, mode, offset, length)
unfoldable pub fallocate : AbiRules → Args → Memory → Kernel → Call Kernel ⊤
fallocate abi args m k = record {
  operation = native.allocate k (signed args 0) (signed args 1) (signed args 2) (signed args 3);
  deliver = λ _. gives_word 0;
  keeps = false;
}
