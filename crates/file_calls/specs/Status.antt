-- The calls that tell the status of a file. A path is read first: EFAULT, then ENAMETOOLONG.
use Rattle.std.specs.Prelude.{ℕ, pos, false}
use Rattle.kernel_values.specs.declared.status.Stat.{Stat}
use Rattle.native_kernel.specs.declared.state.Kernel.{Kernel}
use Rattle.native_kernel.specs.Operations as native
use Rattle.abi_registers.specs.declared.arguments.Args.{Args}
use Rattle.abi_registers.specs.Values.{signed, word}
use Rattle.layout_laws.specs.Abis.{AbiRules}
use Rattle.file_layouts.specs.Stats.{stat_32, stat_64}
use Rattle.served_calls.specs.Calls.{Call, Delivery, Memory, gives_word, on_fetched, ◌>>◌}
use Rattle.served_calls.specs.Bytes.{path_at}
use Rattle.served_calls.specs.Shapes.{stores}
use Rattle.kernel_values.specs.Bounds.{at_fdcwd}

-- a status as stat stores it, whole or not at all: EOVERFLOW without form, then EFAULT
abbrev pub gives_stat : AbiRules → ℕ → Stat → Delivery ℕ
gives_stat abi at s = stores stat_32 abi at (record { stat = s }) >> gives_word 0

-- the same as stat64 stores it
abbrev pub gives_stat64 : AbiRules → ℕ → Stat → Delivery ℕ
gives_stat64 abi at s = stores stat_64 abi at (record { stat = s }) >> gives_word 0

-- stat(path, place)
unfoldable pub stat : AbiRules → Args → Memory → Kernel → Call Kernel Stat
stat abi args m k = record {
  operation = on_fetched k (path_at m (word args 0)) (λ path. (native.status_at k at_fdcwd path (pos 0), k));
  deliver = gives_stat abi (word args 1);
  keeps = false;
}

-- fstat(descriptor, place)
unfoldable pub fstat : AbiRules → Args → Memory → Kernel → Call Kernel Stat
fstat abi args m k = record {
  operation = (native.status k (signed args 0), k);
  deliver = gives_stat abi (word args 1);
  keeps = false;
}

-- stat64(path, place)
unfoldable pub stat64 : AbiRules → Args → Memory → Kernel → Call Kernel Stat
stat64 abi args m k = record {
  operation = on_fetched k (path_at m (word args 0)) (λ path. (native.status_at k at_fdcwd path (pos 0), k));
  deliver = gives_stat64 abi (word args 1);
  keeps = false;
}

-- fstat64(descriptor, place)
unfoldable pub fstat64 : AbiRules → Args → Memory → Kernel → Call Kernel Stat
fstat64 abi args m k = record {
  operation = (native.status k (signed args 0), k);
  deliver = gives_stat64 abi (word args 1);
  keeps = false;
}

-- fstatat64(directory, path, place, flags)
unfoldable pub fstatat64 : AbiRules → Args → Memory → Kernel → Call Kernel Stat
fstatat64 abi args m k = record {
  operation = on_fetched k (path_at m (word args 1)) (λ path. (native.status_at k (signed args 0) path (signed args 3), k));
  deliver = gives_stat64 abi (word args 2);
  keeps = false;
}
