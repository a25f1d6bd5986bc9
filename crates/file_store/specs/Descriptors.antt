-- Descriptors that are closed, and put in the place of others.
use Rattle.std.specs.Prelude.{ℕ, ℤ, pos, negsuc, ◌==◌, ◌&&◌, ◌||◌, Bool, false, not, nat_le, Option, Some, None, Result, Ok, ⊤, if◌then◌else◌}
use Rattle.kernel_values.specs.Outcome.{◌>>=◌, ◌>>◌, refused_if, settled}
use Rattle.kernel_values.specs.declared.errno.Errno.{Errno}
use Rattle.kernel_values.specs.declared.errno.Errno.TheVariants.{BadDescriptor, InvalidArgument}
use Rattle.number_maps.specs.NumberMap.{at}
use Rattle.open_files.specs.Descriptors.{descriptor_of, number_of, with_descriptor, without_descriptor}
use Rattle.open_files.specs.declared.state.Descriptor.{Descriptor}
use Rattle.file_store.specs.Releasing.{released, without_locks}
use Rattle.file_store.specs.declared.state.Files.{Files}

-- a descriptor is gone, and the locks on its file, and with the last one of an open file that too
unfoldable pub closed : Files → ℕ → ℕ → Files
closed s n serial = released (without_locks (record s { open_files = without_descriptor s.open_files n }) serial) serial

abbrev pub close : Files → ℤ → Result ⊤ Errno × Files
close s fd = settled s (do
  d ← descriptor_of s.open_files fd
  Ok (tt, closed s d.0 d.1.serial))

-- what is open at the new number is closed first
abbrev pub vacated : Files → ℕ → Option Descriptor → Files
vacated s n None = s
vacated s n (Some d) = closed s n d.serial

-- O_CLOEXEC is the one flag of dup3
abbrev pub is_dup_flags : ℕ → Bool
is_dup_flags flags = (flags == 0) || (flags == 0x80000)

-- the new number is the old one
abbrev pub is_number : ℤ → ℕ → Bool
is_number (pos m) n = m == n
is_number (negsuc m) n = false

-- dup3, and without `three` dup2, which has no flags and answers a number onto itself, also at or above the limit
abbrev pub duplicate_to : Files → ℕ → ℤ → ℤ → ℕ → Bool → Result ℕ Errno × Files
duplicate_to s limit fd new flags three = settled s (do
  d ← descriptor_of s.open_files fd
  refused_if (three && not (is_dup_flags flags)) InvalidArgument
  refused_if (three && is_number new d.0) InvalidArgument
  n ← number_of new
  if d.0 == n then Ok (n, s) else do
    refused_if (nat_le limit n) BadDescriptor
    let after : Files = vacated s n (at s.open_files.descriptors n)
    Ok (n, record after { open_files = with_descriptor after.open_files n (record { serial = d.1.serial; cloexec = three && (flags == 0x80000) }) }))
