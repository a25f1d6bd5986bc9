-- Locks of other processes, and which of them are in the way of a lock.
use Rattle.std.specs.Prelude.{ℕ, ℤ, pos, ◌+◌, ◌-◌, ◌^◌, ◌==◌, ◌&&◌, nat_le, nat_lt, Bool, true, false, if◌then◌else◌, List, Option, Some, None, Result, Ok}
use Rattle.std.specs.Int.{w32, w64, cast_signed}
use Rattle.std.specs.List.{find}
use Rattle.kernel_values.specs.Outcome.{◌>>◌, refused_if}
use Rattle.kernel_values.specs.declared.errno.Errno.{Errno}
use Rattle.kernel_values.specs.declared.errno.Errno.TheVariants.{Overflow}
use Rattle.record_locks.specs.Ranges.{last_byte}
use Rattle.record_locks.specs.declared.state.ByteRange.{ByteRange}
use Rattle.record_locks.specs.declared.state.ForeignLock.{ForeignLock}
use Rattle.record_locks.specs.declared.state.LockKind.{LockKind}
use Rattle.record_locks.specs.declared.state.LockKind.TheVariants.{Read, Write}

-- the last byte of a lock of the image: length 0 has no end
abbrev pub last_of : ℕ → ℕ → ℕ
last_of start length = if length == 0 then last_byte else start + length - 1

-- a length is told as 0 where the last byte is the greatest
abbrev pub told_length : ℕ → ℕ → ℕ
told_length start length = if start + length == 2 ^ 63 then 0 else length

-- the numbers of the kinds
abbrev pub kind_number : LockKind → ℤ
kind_number Read = pos 0
kind_number Write = pos 1

-- a lock of another process; no lock reaches past the last byte
unfoldable pub foreign_lock : ℕ → LockKind → ℕ → ℕ → ℕ → Result ForeignLock Errno
foreign_lock inode kind start length pid = do
  refused_if (nat_lt (2 ^ 63) (start + length)) Overflow
  Ok (record {
    inode = inode;
    kind = kind;
    first = start;
    last = last_of start length;
    told = record {
      kind = kind_number kind;
      whence = pos 0;
      start = cast_signed w64 start;
      length = pos (told_length start length);
      pid = cast_signed w32 pid;
    };
  })

-- one of two locks on a byte is of writers
abbrev pub excludes : LockKind → LockKind → Bool
excludes Read Read = false
excludes Read Write = true
excludes Write Read = true
excludes Write Write = true

-- a foreign lock is in the way of a lock on bytes of a file: it has one of them, and one of the two is of writers
abbrev pub conflicts : ℕ → LockKind → ByteRange → ForeignLock → Bool
conflicts inode kind r f = (f.inode == inode) && (nat_le f.first r.last && (nat_le r.first f.last && excludes kind f.kind))

-- the first foreign lock in the way; none is in the way of unlocking
unfoldable pub obstacle : List ForeignLock → ℕ → Option LockKind → ByteRange → Option ForeignLock
obstacle locks inode None r = None
obstacle locks inode (Some kind) r = find (conflicts inode kind r) locks
