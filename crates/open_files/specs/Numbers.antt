-- The numbers of new descriptors.
use Rattle.std.specs.Prelude.{ℕ, ℤ, pos, negsuc, ◌+◌, ◌-◌, int_le, Bool, ok_or, Result, Ok}
use Rattle.kernel_values.specs.Outcome.{◌>>=◌, ◌>>◌, refused_if, settled}
use Rattle.kernel_values.specs.declared.errno.Errno.{Errno}
use Rattle.kernel_values.specs.declared.errno.Errno.TheVariants.{InvalidArgument, TableFull, TooManyDescriptors}
use Rattle.number_maps.specs.NumberMap.{first_free}
use Rattle.open_files.specs.Descriptors.{descriptor_of, with_descriptor}
use Rattle.open_files.specs.Made.{is_full}
use Rattle.open_files.specs.declared.state.OpenFiles.{OpenFiles}

-- the lowest free number, from one on and below a limit
abbrev pub free_number : OpenFiles → ℕ → ℕ → Result ℕ Errno
free_number s from limit = ok_or (first_free s.descriptors from (limit - from)) TooManyDescriptors

-- the two lowest free numbers
abbrev pub free_pair : OpenFiles → ℕ → Result (ℕ × ℕ) Errno
free_pair s limit = do
  first ← free_number s 0 limit
  second ← free_number s (first + 1) limit
  Ok (first, second)

-- the number from which a free one is sought
abbrev pub from_least : ℤ → ℕ
from_least (pos n) = n
from_least (negsuc n) = 0

-- F_DUPFD and F_DUPFD_CLOEXEC; a least number below 0 is that of dup, which refuses none
abbrev pub duplicate : OpenFiles → ℕ → ℤ → ℤ → Bool → Result ℕ Errno × OpenFiles
duplicate s limit fd least cloexec = settled s (do
  d ← descriptor_of s fd
  refused_if (int_le (pos limit) least) InvalidArgument
  n ← free_number s (from_least least) limit
  refused_if (is_full s.made) TableFull
  Ok (n, with_descriptor s n (record { serial = d.1.serial; cloexec = cloexec })))
