-- The locks that the process has, by the inode number of their file.
use Rattle.std.specs.Prelude.{ℕ, unwrap_or, List, [], Option, Some, None}
use Rattle.number_maps.specs.NumberMap.{at, changed, put}
use Rattle.record_locks.specs.Own.{relocked}
use Rattle.record_locks.specs.declared.state.ByteRange.{ByteRange}
use Rattle.record_locks.specs.declared.state.LockKind.{LockKind}
use Rattle.record_locks.specs.declared.state.OwnLock.{OwnLock}

-- the locks that the process has on a file
abbrev pub locks_on : List (ℕ × List OwnLock) → ℕ → List OwnLock
locks_on own inode = unwrap_or (at own inode) []

-- bytes of a file have another lock of the process, or none
abbrev pub relocked_as : List (ℕ × List OwnLock) → ℕ → Option LockKind → ByteRange → Option (List OwnLock) → List (ℕ × List OwnLock)
relocked_as own inode wanted r None = put own inode (relocked [] wanted r)
relocked_as own inode wanted r (Some locks) = changed own inode (relocked locks wanted r)

unfoldable pub locked : List (ℕ × List OwnLock) → ℕ → Option LockKind → ByteRange → List (ℕ × List OwnLock)
locked own inode wanted r = relocked_as own inode wanted r (at own inode)
