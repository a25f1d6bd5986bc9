-- What changes bytes, times, locks and the working directory makes nothing.
use Rattle.std.specs.Prelude.{◌≡◌, ◌≤◌, ◌+◌, ℕ, Bool, true, false, List, length, Option, Ok}
use Rattle.kernel_values.specs.Bounds.{most_file_bytes}
use Rattle.kernel_values.specs.declared.locks.Lock.{Lock}
use Rattle.kernel_values.specs.declared.open_flags.OpenFlags.{OpenFlags}
use Rattle.kernel_values.specs.declared.status.FileTimes.{FileTimes}
use Rattle.kernel_values.specs.declared.times.TimeSpec.{TimeSpec}
use Rattle.file_tree.specs.Lengths.{emptied, retimed, with_end, with_length, with_written}
use Rattle.file_tree.specs.Locks.{set_lock}
use Rattle.file_tree.specs.Paths.{is_directory}
use Rattle.file_tree.specs.Removing.{without_locks_on}
use Rattle.file_tree.specs.Working.{with_working}
use Rattle.file_tree.specs.declared.state.FileTree.{FileTree}
use Rattle.tree_laws.specs.Sound.{IsSound}
use Rattle.tree_laws.specs.Views.{is_there}

-- bytes are written within what a file may have
abbrev pub WrittenBytesKeepSound : Type 0
WrittenBytesKeepSound =
    (things : ℕ) (s : FileTree) (now : TimeSpec) (inode start : ℕ) (bytes : List ℕ)
    → IsSound things s
    → start + length bytes ≤ most_file_bytes
    → IsSound things (with_written s now inode start bytes)

-- what is there and is no directory loses its bytes
abbrev pub EmptiedFileKeepsSound : Type 0
EmptiedFileKeepsSound =
    (things : ℕ) (s : FileTree) (inode : ℕ)
    → IsSound things s
    → is_there s.nodes inode ≡ true
    → is_directory s inode ≡ false
    → IsSound things (emptied s inode)

-- a file gets a length that it may have
abbrev pub LengthKeepsSound : Type 0
LengthKeepsSound =
    (things : ℕ) (s : FileTree) (now : TimeSpec) (inode n : ℕ)
    → IsSound things s
    → n ≤ most_file_bytes
    → IsSound things (with_length s now inode n)

-- a file reaches up to an end that it may have
abbrev pub EndKeepsSound : Type 0
EndKeepsSound =
    (things : ℕ) (s : FileTree) (raises : Bool) (inode end : ℕ)
    → IsSound things s
    → end ≤ most_file_bytes
    → IsSound things (with_end s raises inode end)

-- the times of an inode are set
abbrev pub TimesKeepSound : Type 0
TimesKeepSound = (things : ℕ) (s : FileTree) (inode : ℕ) (now : TimeSpec) (times : Option FileTimes) → IsSound things s → IsSound things (retimed s inode now times)

-- a lock of the process is set
abbrev pub LockKeepsSound : Type 0
LockKeepsSound =
    (things : ℕ) (s after : FileTree) (inode position : ℕ) (flags : OpenFlags) (l : Lock)
    → IsSound things s
    → set_lock s inode position flags l ≡ Ok (tt, after)
    → IsSound things after

-- the locks of the process on a file are gone
abbrev pub UnlockingKeepsSound : Type 0
UnlockingKeepsSound = (things : ℕ) (s : FileTree) (inode : ℕ) → IsSound things s → IsSound things (without_locks_on s inode)

-- another directory is the working one
abbrev pub WorkingKeepsSound : Type 0
WorkingKeepsSound = (things : ℕ) (s : FileTree) (inode : ℕ) → IsSound things s → is_directory s inode ≡ true → IsSound things (with_working s inode)
