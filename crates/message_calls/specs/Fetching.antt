-- Addresses of Unix sockets as calls fetch and store them, and what stands before them: EBADF for a descriptor that isn't open.
use Rattle.std.specs.Prelude.{ℕ, ℤ, pos, negsuc, ◌==◌, ◌||◌, false, not, nat_lt, List, length, take, Option, Some, None, Result, Ok, Err, if◌then◌else◌, ⊤}
use Rattle.std.specs.Int.{w64, cast_unsigned}
use Rattle.kernel_values.specs.Outcome.{◌>>=◌, ◌>>◌, refused_if}
use Rattle.kernel_values.specs.declared.errno.Errno.{Errno}
use Rattle.kernel_values.specs.declared.errno.Errno.TheVariants.{BadDescriptor, InvalidArgument}
use Rattle.native_kernel.specs.declared.state.Kernel.{Kernel}
use Rattle.native_kernel.specs.Operations as native
use Rattle.abi_registers.specs.declared.arguments.Args.{Args}
use Rattle.abi_registers.specs.Values.{signed}
use Rattle.layout_laws.specs.Abis.{AbiRules}
use Rattle.message_layouts.specs.Addresses.{address_bytes, address_of}
use Rattle.message_layouts.specs.Headers.{signed_word_32}
use Rattle.served_calls.specs.Bytes.{low_word, stores_bytes}
use Rattle.served_calls.specs.Calls as calls
use Rattle.served_calls.specs.Calls.{Delivery, Memory}
use Rattle.served_calls.specs.Shapes.{fetched, found, shape_at, stores}

-- a descriptor that is open
unfoldable pub opened : Kernel → ℤ → Result ⊤ Errno
opened k fd = refused_if (not (native.can_use k fd false false)) BadDescriptor

-- a signed argument as the word that stands in its register: a type or flags
abbrev pub flag_word : Args → ℕ → ℕ
flag_word args at = low_word (cast_unsigned w64 (signed args at))

-- The name of the address that a call gives: EINVAL for another length than 3 to 110 bytes, EFAULT, and then EINVAL for another family.
unfoldable pub address_at : Memory → ℕ → ℤ → Result (List ℕ) Errno
address_at m at (negsuc n) = Err InvalidArgument
address_at m at (pos n) = do
  refused_if (nat_lt n 3 || nat_lt 110 n) InvalidArgument
  bytes ← fetched m at n (λ bytes. bytes)
  address_of bytes

-- a length is no less than 0
abbrev pub room_of : ℤ → Result ℕ Errno
room_of (pos n) = Ok n
room_of (negsuc n) = Err InvalidArgument

-- how many bytes there is room for, as a length in memory tells: EFAULT; EINVAL below 0
unfoldable pub room_in : AbiRules → Memory → ℕ → Result ℕ Errno
room_in abi m at = do
  v ← shape_at signed_word_32 abi m at
  room_of v.value

-- the same where an address is asked for; else the length isn't looked at
abbrev pub optional_room : AbiRules → Memory → ℕ → ℕ → Result (Option ℕ) Errno
optional_room abi m at length_at = if at == 0 then Ok None else found (room_in abi m length_at)

-- The address of a name, as many bytes as there is room for, and then the length of all of it.
unfoldable pub stores_address : AbiRules → ℕ → ℕ → ℕ → List ℕ → Delivery ⊤
stores_address abi at length_at room name =
    calls.◌>>◌ (stores_bytes at (take room (address_bytes name))) (stores signed_word_32 abi length_at (record { value = pos (length (address_bytes name)) }))

-- the same where it is asked for
abbrev pub stores_optional_address : AbiRules → ℕ → ℕ → Option ℕ → List ℕ → Delivery ⊤
stores_optional_address abi at length_at None name m = (Ok tt, m)
stores_optional_address abi at length_at (Some room) name m = stores_address abi at length_at room name m
