-- Every tree that the image and the operations make.
use Rattle.std.specs.Prelude.{◌≡◌, ◌≤◌, ◌<◌, ◌+◌, ◌^◌, ℕ, Bool, true, false, length, List, Option, Some, None, Ok}
use Rattle.kernel_values.specs.Bounds.{most_file_bytes}
use Rattle.kernel_values.specs.declared.locks.Lock.{Lock}
use Rattle.kernel_values.specs.declared.open_flags.OpenFlags.{OpenFlags}
use Rattle.kernel_values.specs.declared.status.FileTimes.{FileTimes}
use Rattle.kernel_values.specs.declared.times.TimeSpec.{TimeSpec}
use Rattle.file_tree.specs.Image.{fresh_tree, image_bytes, image_directory, image_file, image_lock, is_free_name}
use Rattle.file_tree.specs.Lengths.{emptied, retimed, with_end, with_length, with_written}
use Rattle.file_tree.specs.Locks.{set_lock}
use Rattle.file_tree.specs.Making.{with_directory, with_file, with_inode_given}
use Rattle.file_tree.specs.Paths.{entry_at, is_directory}
use Rattle.file_tree.specs.Removing.{let_go, spare, unnamed, without_directory, without_locks_on, without_name}
use Rattle.file_tree.specs.Renaming.{is_fixed, is_same, may_move, renamed}
use Rattle.file_tree.specs.Working.{with_working}
use Rattle.file_tree.specs.declared.state.FileTree.{FileTree}
use Rattle.file_tree.specs.declared.state.Maker.{Maker}
use Rattle.tree_laws.specs.Sound.{IsSound}
use Rattle.tree_laws.specs.Views.{is_there}

-- A tree that comes of the one at first by lines of the image and by operations, each where no refusal stands against it, with how
-- many things were made on the way: an inode with its name, a number alone, or a name that moved.
pub data Made : ℕ → FileTree → Type 0 where
  First : Made 0 fresh_tree
  ImageDirectory : (n : ℕ) (s : FileTree) (path : List ℕ) (inode : ℕ) → Made n s → s.numbers.next ≡ 0x1000 → is_free_name s path inode ≡ true → Made (n + 1) (image_directory s path inode).1
  ImageFile : (n : ℕ) (s : FileTree) (path : List ℕ) (inode size : ℕ) → Made n s → s.numbers.next ≡ 0x1000 → is_free_name s path inode ≡ true → Made (n + 1) (image_file s path inode size).1
  ImageBytes : (n : ℕ) (s : FileTree) (path : List ℕ) (offset : ℕ) (bytes : List ℕ) → Made n s → Made n (image_bytes s path offset bytes).1
  ImageLock : (n : ℕ) (s : FileTree) (path : List ℕ) (write : Bool) (start count pid : ℕ) → Made n s → Made n (image_lock s path write start count pid).1
  Number : (n : ℕ) (s : FileTree) → Made n s → n < 2 ^ 31 → Made (n + 1) (with_inode_given s)
  File : (n : ℕ) (s : FileTree) (m : Maker) (l : ℕ × List ℕ) (mode : ℕ) → Made n s → n < 2 ^ 31 → entry_at s l ≡ Ok None → Made (n + 1) (with_file s m l mode)
  Directory : (n : ℕ) (s : FileTree) (m : Maker) (l : ℕ × List ℕ) (mode : ℕ) → Made n s → n < 2 ^ 31 → entry_at s l ≡ Ok None → Made (n + 1) (with_directory s m l mode)
  Written : (n : ℕ) (s : FileTree) (now : TimeSpec) (inode start : ℕ) (bytes : List ℕ) → Made n s → start + length bytes ≤ most_file_bytes → Made n (with_written s now inode start bytes)
  Emptied : (n : ℕ) (s : FileTree) (inode : ℕ) → Made n s → is_there s.nodes inode ≡ true → is_directory s inode ≡ false → Made n (emptied s inode)
  Length : (n : ℕ) (s : FileTree) (now : TimeSpec) (inode size : ℕ) → Made n s → size ≤ most_file_bytes → Made n (with_length s now inode size)
  End : (n : ℕ) (s : FileTree) (raises : Bool) (inode end : ℕ) → Made n s → end ≤ most_file_bytes → Made n (with_end s raises inode end)
  Times : (n : ℕ) (s : FileTree) (inode : ℕ) (now : TimeSpec) (times : Option FileTimes) → Made n s → Made n (retimed s inode now times)
  Locked : (n : ℕ) (s after : FileTree) (inode position : ℕ) (flags : OpenFlags) (l : Lock) → Made n s → set_lock s inode position flags l ≡ Ok (tt, after) → Made n after
  Unlocked : (n : ℕ) (s : FileTree) (inode : ℕ) → Made n s → Made n (without_locks_on s inode)
  Working : (n : ℕ) (s : FileTree) (inode : ℕ) → Made n s → is_directory s inode ≡ true → Made n (with_working s inode)
  Unnamed : (n : ℕ) (s : FileTree) (now : TimeSpec) (l : ℕ × List ℕ) (i : ℕ) (held : Bool) → Made n s → is_fixed l.1 ≡ false → entry_at s l ≡ Ok (Some i) → is_directory s i ≡ false → Made n (unnamed (without_name s now l) i held)
  LetGo : (n : ℕ) (s : FileTree) (i : ℕ) (held : Bool) → Made n s → Made n (let_go s i held)
  Removed : (n : ℕ) (s : FileTree) (now : TimeSpec) (l : ℕ × List ℕ) (i : ℕ) (held : Bool) → Made n s → is_fixed l.1 ≡ false → entry_at s l ≡ Ok (Some i) → spare s i held ≡ Ok tt → Made n (without_directory (without_name s now l) i)
  Renamed : (n : ℕ) (s : FileTree) (now : TimeSpec) (l m : ℕ × List ℕ) (path : List ℕ) (i : ℕ) (e : Option ℕ) (held : Bool) → Made n s → is_fixed l.1 ≡ false → is_fixed m.1 ≡ false → entry_at s l ≡ Ok (Some i) → entry_at s m ≡ Ok e → is_same i e ≡ false → may_move s i m path e held ≡ Ok tt → Made (n + 1) (renamed s now l m i e held)

-- every such tree is sound
abbrev pub MadeTreesAreSound : Type 0
MadeTreesAreSound = (n : ℕ) (s : FileTree) → Made n s → IsSound n s
