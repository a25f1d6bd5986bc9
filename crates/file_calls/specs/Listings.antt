-- getdents and getdents64: the records of a directory's entries, one after another.
use Rattle.std.specs.Prelude.{ℕ, ℤ, pos, ◌+◌, ◌-◌, ◌==◌, Bool, nat_lt, length, List, [], ◌∷◌, Option, Some, None, Result, Ok, Err, ⊤, if◌then◌else◌}
use Rattle.kernel_values.specs.declared.errno.Errno.{Errno}
use Rattle.kernel_values.specs.declared.errno.Errno.TheVariants.{InvalidArgument, Overflow}
use Rattle.kernel_values.specs.declared.listing.DirEntry.{DirEntry}
use Rattle.native_kernel.specs.declared.state.Kernel.{Kernel}
use Rattle.native_kernel.specs.Operations as native
use Rattle.abi_registers.specs.declared.arguments.Args.{Args}
use Rattle.abi_registers.specs.Values.{signed, word}
use Rattle.file_layouts.specs.Directories.{dirent_bytes, record_length}
use Rattle.served_calls.specs.Bytes.{low_word, stores_bytes}
use Rattle.served_calls.specs.Calls.{Delivery, Memory, Served}
use Rattle.file_calls.specs.declared.listings.Listed.{Listed}

-- an inode without form EOVERFLOW; then the record is stored whole, or EFAULT
abbrev pub stores_record : ℕ → Option (List ℕ) → Delivery ⊤
stores_record at None m = (Err Overflow, m)
stores_record at (Some bytes) m = stores_bytes at bytes m

-- no room for the record EINVAL, before the others
unfoldable pub stores_entry : Bool → ℕ → ℕ → DirEntry → Delivery ⊤
stores_entry wide at room e m =
    if nat_lt room (record_length wide (length e.name)) then (Err InvalidArgument, m) else stores_record at (dirent_bytes wide e) m

-- what refuses the first record is the answer; what refuses a later one ends the listing
abbrev pub cut_short : Listed → Errno → Result Listed Errno
cut_short l e = if l.bytes == 0 then Err e else Ok l

abbrev pub stored_then : Listed → Result ⊤ Errno × Memory → (Memory → Result Listed Errno × Memory) → Result Listed Errno × Memory
stored_then l (Ok u, m) next = next m
stored_then l (Err e, m) next = (cut_short l e, m)

-- behind an entry
abbrev pub one_more : Bool → Listed → DirEntry → Listed
one_more wide l e = record { bytes = l.bytes + record_length wide (length e.name); position = e.position }

-- the records of entries, behind those stored, up to the first that is refused
unfoldable pub records : Bool → ℕ → ℕ → Listed → List DirEntry → Delivery Listed
records wide at room l [] m = (Ok l, m)
records wide at room l (e ∷ es) m =
    stored_then l (stores_entry wide (at + l.bytes) (room - l.bytes) e m) (records wide at room (one_more wide l e) es)

-- the same, or what refuses the listing
abbrev pub listed_records : Bool → ℕ → ℕ → Listed → Result (List DirEntry) Errno → Delivery Listed
listed_records wide at room l (Ok es) m = records wide at room l es m
listed_records wide at room l (Err e) m = (Err e, m)

-- the position moves behind the last entry stored
abbrev pub moved : Listed → Memory → Result ℤ Errno × Kernel → Served Kernel
moved l m (Ok p, k) = (Ok (low_word l.bytes), (m, k))
moved l m (Err e, k) = (Err e, (m, k))

-- where no record was stored, nothing moves
abbrev pub listed_to : Kernel → ℤ → Result Listed Errno × Memory → Served Kernel
listed_to k fd (Err e, m) = (Err e, (m, k))
listed_to k fd (Ok l, m) = if l.bytes == 0 then (Ok 0, (m, k)) else moved l m (native.seek k fd (pos l.position) 0)

abbrev pub listed_from : Bool → ℕ → ℕ → ℤ → ℕ → Memory → Kernel → Served Kernel
listed_from wide at room fd position m k =
    listed_to k fd (listed_records wide at room (record { bytes = 0; position = position }) (native.listing k fd position) m)

abbrev pub listed_at : Bool → ℕ → ℕ → ℤ → Result ℕ Errno → Memory → Kernel → Served Kernel
listed_at wide at room fd (Err e) m k = (Err e, (m, k))
listed_at wide at room fd (Ok position) m k = listed_from wide at room fd position m k

-- getdents(descriptor, buffer, count), and with wide records getdents64
unfoldable pub getdents : Bool → Args → Memory → Kernel → Served Kernel
getdents wide args m k = listed_at wide (word args 1) (word args 2) (signed args 0) (native.position k (signed args 0)) m k
