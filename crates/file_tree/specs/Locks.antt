-- The locks of files: those of the process, and those of other processes.
use Rattle.std.specs.Prelude.{ℕ, zero, suc, ℤ, pos, negsuc, Bool, true, false, not, is_some, Option, Some, None, Result, Ok, Err, ⊤}
use Rattle.kernel_values.specs.Outcome.{◌>>=◌, ◌>>◌, refused_if}
use Rattle.kernel_values.specs.OpenFlags.{can_read, can_write}
use Rattle.kernel_values.specs.declared.errno.Errno.{Errno}
use Rattle.kernel_values.specs.declared.errno.Errno.TheVariants.{BadDescriptor, InvalidArgument, TryAgain}
use Rattle.kernel_values.specs.declared.locks.Lock.{Lock}
use Rattle.kernel_values.specs.declared.open_flags.OpenFlags.{OpenFlags}
use Rattle.record_locks.specs.Foreign.{obstacle}
use Rattle.record_locks.specs.Ranges.{byte_range, lock_kind}
use Rattle.record_locks.specs.declared.state.ByteRange.{ByteRange}
use Rattle.record_locks.specs.declared.state.ForeignLock.{ForeignLock}
use Rattle.record_locks.specs.declared.state.LockKind.{LockKind}
use Rattle.record_locks.specs.declared.state.LockKind.TheVariants.{Read, Write}
use Rattle.file_tree.specs.Lengths.{size_of}
use Rattle.file_tree.specs.OwnLocks.{locked}
use Rattle.file_tree.specs.declared.state.FileTree.{FileTree}

-- the place from which a seek counts in an inode, of which an open file has a position: SEEK_SET 0, SEEK_CUR 1 and SEEK_END 2
abbrev pub seek_base : FileTree → ℕ → ℕ → ℕ → Result ℕ Errno
seek_base s inode position zero = Ok 0
seek_base s inode position (suc zero) = Ok position
seek_base s inode position (suc (suc zero)) = Ok (size_of s inode)
seek_base s inode position (suc (suc (suc n))) = Err InvalidArgument

-- the place from which a lock counts
abbrev pub lock_base : FileTree → ℕ → ℕ → ℤ → Result ℕ Errno
lock_base s inode position (pos whence) = seek_base s inode position whence
lock_base s inode position (negsuc n) = Err InvalidArgument

-- the bytes of a lock
unfoldable pub lock_bytes : FileTree → ℕ → ℕ → Lock → Result ByteRange Errno
lock_bytes s inode position l = do
  base ← lock_base s inode position l.whence
  byte_range base l.start l.length

-- F_GETLK asks for a lock
abbrev pub asked_kind : Option LockKind → Result LockKind Errno
asked_kind None = Err InvalidArgument
asked_kind (Some kind) = Ok kind

-- the lock in the way is told; where there is none, the lock as it was given, unlocked (F_UNLCK, 2)
abbrev pub found : Lock → Option ForeignLock → Lock
found l None = record l { kind = pos 2 }
found l (Some f) = f.told

-- F_GETLK on a file, of which an open file has a position
unfoldable pub find_lock : FileTree → ℕ → ℕ → Lock → Result Lock Errno
find_lock s inode position l = do
  wanted ← lock_kind l.kind
  kind ← asked_kind wanted
  r ← lock_bytes s inode position l
  Ok (found l (obstacle s.foreign_locks inode (Some kind) r))

-- a lock of readers needs read access, one of writers write access, and unlocking none
abbrev pub may_set : OpenFlags → Option LockKind → Bool
may_set flags None = true
may_set flags (Some Write) = can_write flags
may_set flags (Some Read) = can_read flags

-- F_SETLK on a file, of which an open file has these flags and a position
abbrev pub set_lock : FileTree → ℕ → ℕ → OpenFlags → Lock → Result (⊤ × FileTree) Errno
set_lock s inode position flags l = do
  wanted ← lock_kind l.kind
  r ← lock_bytes s inode position l
  refused_if (not (may_set flags wanted)) BadDescriptor
  refused_if (is_some (obstacle s.foreign_locks inode wanted r)) TryAgain
  Ok (tt, record s { own_locks = locked s.own_locks inode wanted r })

-- whether a lock is of writers, as an item tells it, and the kind of one that the image gives so
abbrev pub is_of_writers : LockKind → Bool
is_of_writers Read = false
is_of_writers Write = true

abbrev pub image_kind : Bool → LockKind
image_kind true = Write
image_kind false = Read
