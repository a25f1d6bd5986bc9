-- Addresses of Unix sockets: struct sockaddr_un of include/uapi/linux/un.h, and unix(7), "Address format".
use Rattle.std.specs.Prelude.{ℕ, not, ◌==◌, nat_lt, ◌||◌, Bool, List, [], ◌∷◌, ◌++◌, length, take, drop, slice_index, Result, Ok, if◌then◌else◌, eqb}
use Rattle.std.specs.List.{before_first}
use Rattle.byteorder.specs.Endian.{little_bytes, little_number}
use Rattle.kernel_values.specs.Outcome.{◌>>◌, refused_if}
use Rattle.kernel_values.specs.declared.errno.Errno.{Errno}
use Rattle.kernel_values.specs.declared.errno.Errno.TheVariants.{InvalidArgument}

-- a name is a path where it has bytes and doesn't begin with a zero; else it is abstract, or there is none
abbrev pub is_path : List ℕ → Bool
is_path name = nat_lt 0 (slice_index name 0)

-- a path ends before its first zero, and an abstract name has all bytes
abbrev pub name_in : List ℕ → List ℕ
name_in bytes = if is_path bytes then before_first (λ b. eqb b 0) bytes else bytes

-- the name of an address of 3 to 110 bytes and the family AF_UNIX, 1
abbrev pub address_of : List ℕ → Result (List ℕ) Errno
address_of bytes = do
  refused_if (nat_lt (length bytes) 3 || nat_lt 110 (length bytes)) InvalidArgument
  refused_if (not (little_number 2 bytes == 1)) InvalidArgument
  Ok (name_in (drop 2 bytes))

-- a path is told with a zero behind it
abbrev pub path_bytes : List ℕ → List ℕ
path_bytes name = if is_path name then name ++ 0 ∷ [] else name

-- the bytes that are told of the address of a name, of which at most 108 bytes stand; no name is told by the family alone
abbrev pub address_bytes : List ℕ → List ℕ
address_bytes name = little_bytes 2 1 ++ path_bytes (take 108 name)
