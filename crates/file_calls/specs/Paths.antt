-- The calls on paths. A path is read first: EFAULT, then ENAMETOOLONG.
use Rattle.std.specs.Prelude.{ℕ, length, List, ⊤, false}
use Rattle.kernel_values.specs.OpenFlags.{from_word}
use Rattle.kernel_values.specs.Bounds.{at_fdcwd}
use Rattle.native_kernel.specs.declared.state.Kernel.{Kernel}
use Rattle.native_kernel.specs.Operations as native
use Rattle.abi_registers.specs.declared.arguments.Args.{Args}
use Rattle.abi_registers.specs.Values.{signed, word}
use Rattle.layout_laws.specs.Abis.{AbiRules}
use Rattle.served_calls.specs.Calls.{Call, Memory, gives_word, on_fetched, ◌>>◌}
use Rattle.served_calls.specs.Bytes.{path_at, stores_bytes}

-- open(path, flags, mode)
unfoldable pub open_path : AbiRules → Args → Memory → Kernel → Call Kernel ℕ
open_path abi args m k = record {
  operation = on_fetched k (path_at m (word args 0)) (λ path. native.open_path k at_fdcwd path (from_word abi.kind (word args 1)) (word args 2));
  deliver = gives_word;
  keeps = false;
}

-- openat(directory, path, flags, mode)
unfoldable pub open_path_at : AbiRules → Args → Memory → Kernel → Call Kernel ℕ
open_path_at abi args m k = record {
  operation = on_fetched k (path_at m (word args 1)) (λ path. native.open_path k (signed args 0) path (from_word abi.kind (word args 2)) (word args 3));
  deliver = gives_word;
  keeps = false;
}

-- chdir(path)
unfoldable pub chdir : AbiRules → Args → Memory → Kernel → Call Kernel ⊤
chdir abi args m k = record {
  operation = on_fetched k (path_at m (word args 0)) (native.change_directory k);
  deliver = λ _. gives_word 0;
  keeps = false;
}

-- getcwd(buffer, size): the path with its zero, whole or not at all, and its length
unfoldable pub getcwd : AbiRules → Args → Memory → Kernel → Call Kernel (List ℕ)
getcwd abi args m k = record {
  operation = (native.current_directory k (word args 1), k);
  deliver = λ text. stores_bytes (word args 0) text >> gives_word (length text);
  keeps = false;
}
