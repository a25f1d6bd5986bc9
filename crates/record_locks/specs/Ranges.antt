-- Which bytes a lock is on, by include/uapi/asm-generic/fcntl.h: F_RDLCK 0, F_WRLCK 1, F_UNLCK 2.
use Rattle.std.specs.Prelude.{ℕ, zero, suc, ℤ, pos, negsuc, ◌+ℤ◌, ◌-◌, ◌^◌, nat_abs, int_lt, ◌||◌, Option, Some, None, Result, Ok, Err}
use Rattle.kernel_values.specs.Outcome.{◌>>◌, refused_if}
use Rattle.kernel_values.specs.declared.errno.Errno.{Errno}
use Rattle.kernel_values.specs.declared.errno.Errno.TheVariants.{InvalidArgument, Overflow}
use Rattle.record_locks.specs.declared.state.ByteRange.{ByteRange}
use Rattle.record_locks.specs.declared.state.LockKind.{LockKind}
use Rattle.record_locks.specs.declared.state.LockKind.TheVariants.{Read, Write}

-- the greatest place of a byte
abbrev pub last_byte : ℕ
last_byte = 2 ^ 63 - 1

-- the kind of lock that is wanted; none unlocks
unfoldable pub lock_kind : ℤ → Result (Option LockKind) Errno
lock_kind (pos zero) = Ok (Some Read)
lock_kind (pos (suc zero)) = Ok (Some Write)
lock_kind (pos (suc (suc zero))) = Ok None
lock_kind (pos (suc (suc (suc n)))) = Err InvalidArgument
lock_kind (negsuc n) = Err InvalidArgument

-- the first and the last place of a range that begins at a place: length 0 goes up to the last byte,
-- a negative length lies before the place
abbrev pub places_of : ℤ → ℤ → ℤ × ℤ
places_of start (pos zero) = (start, pos last_byte)
places_of start (pos (suc n)) = (start, start +ℤ pos n)
places_of start (negsuc n) = (start +ℤ negsuc n, start +ℤ negsuc 0)

-- a first place below 0 is refused before a place past the last byte
abbrev pub bytes_between : ℤ × ℤ → Result ByteRange Errno
bytes_between p = do
  refused_if (int_lt p.0 (pos 0)) InvalidArgument
  refused_if (int_lt (pos last_byte) p.0 || int_lt (pos last_byte) p.1) Overflow
  Ok (record { first = nat_abs p.0; last = nat_abs p.1 })

-- the bytes of a lock, from the place that it counts from, its start and its length
unfoldable pub byte_range : ℕ → ℤ → ℤ → Result ByteRange Errno
byte_range base start length = bytes_between (places_of (pos base +ℤ start) length)
