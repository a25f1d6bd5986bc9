-- What calls fetch and store besides shapes: paths and data. Of the opaque words a call opens none but the store of a listing's record.
use Rattle.std.specs.Prelude.{ℕ, ◌%◌, ◌^◌, ◌==◌, min, List, length, Option, None, Result, Ok, Err, if◌then◌else◌, ⊤}
use Rattle.kernel_values.specs.declared.errno.Errno.{Errno}
use Rattle.kernel_values.specs.declared.errno.Errno.TheVariants.{BadAddress, NameTooLong}
use Rattle.user_memory.specs.Memory.{bytes_at, is_writable, with_bytes}
use Rattle.user_memory.specs.Prefixes.{readable_prefix, text_at, writable_prefix}
use Rattle.user_memory.specs.declared.text.TextFault.{TextFault}
use Rattle.user_memory.specs.declared.text.TextFault.TheVariants.{Fault, TooLong}
use Rattle.served_calls.specs.Calls.{Memory, Delivery}
use Rattle.served_calls.specs.Shapes.{found}

-- a text as a path: EFAULT where it can't be read, ENAMETOOLONG where it is too long
abbrev pub path_of : Result (List ℕ) TextFault → Result (List ℕ) Errno
path_of (Ok bytes) = Ok bytes
path_of (Err Fault) = Err BadAddress
path_of (Err TooLong) = Err NameTooLong

-- the path at an address: a text of at most 4,096 bytes (PATH_MAX), its zero among them
unfoldable pub path_at : Memory → ℕ → Result (List ℕ) Errno
path_at m at = path_of (text_at m at 4096)

-- the path at a pointer that may be absent
abbrev pub optional_path_at : Memory → ℕ → Result (Option (List ℕ)) Errno
optional_path_at m at = if at == 0 then Ok None else found (path_at m at)

-- how many bytes one call moves at most: a count is cut at the last whole page below 2^31 (MAX_RW_COUNT)
unfoldable pub transfer_count : ℕ → ℕ
transfer_count count = min count 0x7ffff000

-- a number as a result word: those that calls answer are below 2^32
unfoldable pub low_word : ℕ → ℕ
low_word n = n % 2 ^ 32

-- how many of these bytes can be stored from an address on, up to the first that can't
unfoldable pub room_at : Memory → ℕ → ℕ → ℕ
room_at m at count = writable_prefix m at count

-- the bytes from an address on up to the first that can't be read
unfoldable pub data_at : Memory → ℕ → ℕ → List ℕ
data_at m at count = bytes_at m at (readable_prefix m at count)

-- the delivery of bytes: whole, or not at all and EFAULT
unfoldable pub stores_bytes : ℕ → List ℕ → Delivery ⊤
stores_bytes at bytes m = if is_writable m at (length bytes) then (Ok tt, with_bytes m at bytes) else (Err BadAddress, m)
