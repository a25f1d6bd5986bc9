-- Shapes in user memory, as calls fetch and store them. A call on shapes opens none of the opaque words.
use Rattle.std.specs.Prelude.{ℕ, ◌==◌, List, Option, Some, None, Result, Ok, Err, if◌then◌else◌, ⊤}
use Rattle.kernel_values.specs.declared.errno.Errno.{Errno}
use Rattle.kernel_values.specs.declared.errno.Errno.TheVariants.{BadAddress, Overflow}
use Rattle.user_memory.specs.Memory.{is_readable, bytes_at}
use Rattle.layout_laws.specs.declared.user.StoreFault.{StoreFault}
use Rattle.layout_laws.specs.declared.user.StoreFault.TheVariants.{NoForm, Fault}
use Rattle.layout_laws.specs.Stored.{memory_after, store_answer}
use Rattle.layout_laws.specs.Shapes.{Shape, size_of, spelling_of, value_of}
use Rattle.layout_laws.specs.Abis.{AbiRules}
use Rattle.served_calls.specs.Calls.{Memory, Delivery}

-- the value of the bytes at an address, or the fault
unfoldable pub fetched : {V : Type 0} → Memory → ℕ → ℕ → (List ℕ → V) → Result V Errno
fetched m at size value = if is_readable m at size then Ok (value (bytes_at m at size)) else Err BadAddress

-- the same where the pointer may be absent
abbrev pub found : {V : Type 0} → Result V Errno → Result (Option V) Errno
found (Ok v) = Ok (Some v)
found (Err e) = Err e

abbrev pub optionally_fetched : {V : Type 0} → Memory → ℕ → ℕ → (List ℕ → V) → Result (Option V) Errno
optionally_fetched m at size value = if at == 0 then Ok None else found (fetched m at size value)

-- a value without form, and a range that can't be written
abbrev pub store_errno : Result ⊤ StoreFault → Result ⊤ Errno
store_errno (Ok u) = Ok u
store_errno (Err NoForm) = Err Overflow
store_errno (Err Fault) = Err BadAddress

-- the store of the bytes of a form, whole or not at all
unfoldable pub stored : Memory → ℕ → Option (List ℕ) → Result ⊤ Errno × Memory
stored m at spelling = (store_errno (store_answer m at spelling), memory_after m at spelling)

-- a shape at an address
abbrev pub shape_at : {V : Type 0} → Shape V → AbiRules → Memory → ℕ → Result V Errno
shape_at s abi m at = fetched m at (size_of s abi.align64) (value_of s abi.align64)

-- a shape at a pointer that may be absent
abbrev pub optional_shape_at : {V : Type 0} → Shape V → AbiRules → Memory → ℕ → Result (Option V) Errno
optional_shape_at s abi m at = optionally_fetched m at (size_of s abi.align64) (value_of s abi.align64)

-- the delivery of a shape
abbrev pub stores : {V : Type 0} → Shape V → AbiRules → ℕ → V → Delivery ⊤
stores s abi at v m = stored m at (spelling_of s abi.align64 v)
