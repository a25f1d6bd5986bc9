-- The calls that make, remove and move names. A path is read first: EFAULT, then ENAMETOOLONG; of two the first one first.
use Rattle.std.specs.Prelude.{pos, ⊤, false}
use Rattle.native_kernel.specs.declared.state.Kernel.{Kernel}
use Rattle.native_kernel.specs.Operations as native
use Rattle.abi_registers.specs.declared.arguments.Args.{Args}
use Rattle.abi_registers.specs.Values.{signed, word}
use Rattle.layout_laws.specs.Abis.{AbiRules}
use Rattle.served_calls.specs.Calls.{Call, Memory, gives_word, on_fetched}
use Rattle.served_calls.specs.Bytes.{path_at}
use Rattle.kernel_values.specs.Bounds.{at_fdcwd}

-- mkdir(path, mode)
unfoldable pub mkdir : AbiRules → Args → Memory → Kernel → Call Kernel ⊤
mkdir abi args m k = record {
  operation = on_fetched k (path_at m (word args 0)) (λ path. native.make_directory k at_fdcwd path (word args 1));
  deliver = λ _. gives_word 0;
  keeps = false;
}

-- mkdirat(directory, path, mode)
unfoldable pub mkdirat : AbiRules → Args → Memory → Kernel → Call Kernel ⊤
mkdirat abi args m k = record {
  operation = on_fetched k (path_at m (word args 1)) (λ path. native.make_directory k (signed args 0) path (word args 2));
  deliver = λ _. gives_word 0;
  keeps = false;
}

-- rmdir(path): AT_REMOVEDIR
unfoldable pub rmdir : AbiRules → Args → Memory → Kernel → Call Kernel ⊤
rmdir abi args m k = record {
  operation = on_fetched k (path_at m (word args 0)) (λ path. native.remove k at_fdcwd path (pos 0x200));
  deliver = λ _. gives_word 0;
  keeps = false;
}

-- unlink(path)
unfoldable pub unlink : AbiRules → Args → Memory → Kernel → Call Kernel ⊤
unlink abi args m k = record {
  operation = on_fetched k (path_at m (word args 0)) (λ path. native.remove k at_fdcwd path (pos 0));
  deliver = λ _. gives_word 0;
  keeps = false;
}

-- unlinkat(directory, path, flags)
unfoldable pub unlinkat : AbiRules → Args → Memory → Kernel → Call Kernel ⊤
unlinkat abi args m k = record {
  operation = on_fetched k (path_at m (word args 1)) (λ path. native.remove k (signed args 0) path (signed args 2));
  deliver = λ _. gives_word 0;
  keeps = false;
}

-- rename(old, new)
unfoldable pub rename : AbiRules → Args → Memory → Kernel → Call Kernel ⊤
rename abi args m k = record {
  operation = on_fetched k (path_at m (word args 0)) (λ old. on_fetched k (path_at m (word args 1)) (native.rename k old));
  deliver = λ _. gives_word 0;
  keeps = false;
}
