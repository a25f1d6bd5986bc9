-- The commands of fcntl and fcntl64 on locks. The descriptor is tested before the lock is read: EBADF, then EFAULT.
use Rattle.std.specs.Prelude.{⊤, false, Result, Err, if◌then◌else◌}
use Rattle.kernel_values.specs.declared.errno.Errno.{Errno}
use Rattle.kernel_values.specs.declared.errno.Errno.TheVariants.{BadDescriptor}
use Rattle.kernel_values.specs.declared.locks.Lock.{Lock}
use Rattle.native_kernel.specs.declared.state.Kernel.{Kernel}
use Rattle.native_kernel.specs.Operations as native
use Rattle.abi_registers.specs.declared.arguments.Args.{Args}
use Rattle.abi_registers.specs.Values.{signed, word}
use Rattle.layout_laws.specs.Abis.{AbiRules}
use Rattle.file_layouts.specs.Locks.{lock_32, lock_64}
use Rattle.file_layouts.specs.declared.locks.Lock32.{Lock32}
use Rattle.file_layouts.specs.declared.locks.Lock64.{Lock64}
use Rattle.served_calls.specs.Calls.{Call, Memory, gives_word, on_fetched, ◌>>◌}
use Rattle.served_calls.specs.Shapes.{shape_at, stores}

-- what was fetched for a descriptor, where it is open
abbrev pub given : {V : Type 0} → Kernel → Args → Result V Errno → Result V Errno
given k args fetched = if native.can_use k (signed args 0) false false then fetched else Err BadDescriptor

-- F_GETLK: the lock that is told is stored where the one asked for stood, or EOVERFLOW, or EFAULT
unfoldable pub find_lock : AbiRules → Args → Memory → Kernel → Call Kernel Lock
find_lock abi args m k = record {
  operation = on_fetched k (given k args (shape_at lock_32 abi m (word args 2))) (λ (l : Lock32). (native.find_lock k (signed args 0) l.lock, k));
  deliver = λ l. stores lock_32 abi (word args 2) (record { lock = l }) >> gives_word 0;
  keeps = false;
}

-- F_GETLK64
unfoldable pub find_lock_64 : AbiRules → Args → Memory → Kernel → Call Kernel Lock
find_lock_64 abi args m k = record {
  operation = on_fetched k (given k args (shape_at lock_64 abi m (word args 2))) (λ (l : Lock64). (native.find_lock k (signed args 0) l.lock, k));
  deliver = λ l. stores lock_64 abi (word args 2) (record { lock = l }) >> gives_word 0;
  keeps = false;
}

-- F_SETLK and F_SETLKW
unfoldable pub set_lock : AbiRules → Args → Memory → Kernel → Call Kernel ⊤
set_lock abi args m k = record {
  operation = on_fetched k (given k args (shape_at lock_32 abi m (word args 2))) (λ (l : Lock32). native.set_lock k (signed args 0) l.lock);
  deliver = λ _. gives_word 0;
  keeps = false;
}

-- F_SETLK64 and F_SETLKW64
unfoldable pub set_lock_64 : AbiRules → Args → Memory → Kernel → Call Kernel ⊤
set_lock_64 abi args m k = record {
  operation = on_fetched k (given k args (shape_at lock_64 abi m (word args 2))) (λ (l : Lock64). native.set_lock k (signed args 0) l.lock);
  deliver = λ _. gives_word 0;
  keeps = false;
}
