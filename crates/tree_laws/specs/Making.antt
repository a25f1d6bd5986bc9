-- The tree at first, and what the image and the calls make in it.
use Rattle.std.specs.Prelude.{◌≡◌, ◌≤◌, ◌<◌, ◌+◌, ◌^◌, ℕ, Bool, true, List, None, Ok}
use Rattle.file_tree.specs.Image.{fresh_tree, image_bytes, image_directory, image_file, image_lock, is_free_name}
use Rattle.file_tree.specs.Making.{with_directory, with_file, with_inode_given}
use Rattle.file_tree.specs.Paths.{entry_at}
use Rattle.file_tree.specs.declared.state.FileTree.{FileTree}
use Rattle.file_tree.specs.declared.state.Maker.{Maker}
use Rattle.tree_laws.specs.Sound.{IsSound}

-- the tree is sound at first
abbrev pub FreshTreeIsSound : Type 0
FreshTreeIsSound = IsSound 0 fresh_tree

-- what was made stays made
abbrev pub SoundTreeStaysSound : Type 0
SoundTreeStaysSound = (m n : ℕ) (s : FileTree) → m ≤ n → IsSound m s → IsSound n s

-- Before a number was given, the image makes a directory with a free number at a free path. It counts as one thing.
abbrev pub ImageDirectoryKeepsSound : Type 0
ImageDirectoryKeepsSound =
    (things : ℕ) (s : FileTree) (path : List ℕ) (inode : ℕ)
    → IsSound things s
    → s.numbers.next ≡ 0x1000
    → is_free_name s path inode ≡ true
    → IsSound (things + 1) (image_directory s path inode).1

-- the same of a file
abbrev pub ImageFileKeepsSound : Type 0
ImageFileKeepsSound =
    (things : ℕ) (s : FileTree) (path : List ℕ) (inode size : ℕ)
    → IsSound things s
    → s.numbers.next ≡ 0x1000
    → is_free_name s path inode ≡ true
    → IsSound (things + 1) (image_file s path inode size).1

-- neither bytes of the image nor locks of other processes make anything
abbrev pub ImageBytesKeepSound : Type 0
ImageBytesKeepSound = (things : ℕ) (s : FileTree) (path : List ℕ) (offset : ℕ) (bytes : List ℕ) → IsSound things s → IsSound things (image_bytes s path offset bytes).1

abbrev pub ImageLockKeepsSound : Type 0
ImageLockKeepsSound = (things : ℕ) (s : FileTree) (path : List ℕ) (write : Bool) (start count pid : ℕ) → IsSound things s → IsSound things (image_lock s path write start count pid).1

-- An inode number was given, to what stands in no directory. It counts as one thing, of which there are fewer than 2^31.
abbrev pub GivenNumberKeepsSound : Type 0
GivenNumberKeepsSound = (things : ℕ) (s : FileTree) → IsSound things s → things < 2 ^ 31 → IsSound (things + 1) (with_inode_given s)

-- a file is made where a last name isn't there
abbrev pub MadeFileKeepsSound : Type 0
MadeFileKeepsSound =
    (things : ℕ) (s : FileTree) (m : Maker) (l : ℕ × List ℕ) (mode : ℕ)
    → IsSound things s
    → things < 2 ^ 31
    → entry_at s l ≡ Ok None
    → IsSound (things + 1) (with_file s m l mode)

-- a directory is made where a last name isn't there
abbrev pub MadeDirectoryKeepsSound : Type 0
MadeDirectoryKeepsSound =
    (things : ℕ) (s : FileTree) (m : Maker) (l : ℕ × List ℕ) (mode : ℕ)
    → IsSound things s
    → things < 2 ^ 31
    → entry_at s l ≡ Ok None
    → IsSound (things + 1) (with_directory s m l mode)
