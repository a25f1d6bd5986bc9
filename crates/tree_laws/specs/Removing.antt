-- Names that go or move, and what they meant. Whether an open file has an inode is handed in.
use Rattle.std.specs.Prelude.{◌≡◌, ◌+◌, ℕ, Bool, false, List, Option, Some, Ok}
use Rattle.kernel_values.specs.declared.times.TimeSpec.{TimeSpec}
use Rattle.file_tree.specs.Paths.{entry_at, is_directory}
use Rattle.file_tree.specs.Removing.{let_go, spare, unnamed, without_directory, without_name}
use Rattle.file_tree.specs.Renaming.{is_fixed, is_same, may_move, renamed}
use Rattle.file_tree.specs.declared.state.FileTree.{FileTree}
use Rattle.tree_laws.specs.Sound.{IsSound}

-- the name of a file goes, and the file where no open file has it
abbrev pub UnnamedFileKeepsSound : Type 0
UnnamedFileKeepsSound =
    (things : ℕ) (s : FileTree) (now : TimeSpec) (l : ℕ × List ℕ) (i : ℕ) (held : Bool)
    → IsSound things s
    → is_fixed l.1 ≡ false
    → entry_at s l ≡ Ok (Some i)
    → is_directory s i ≡ false
    → IsSound things (unnamed (without_name s now l) i held)

-- what no open file has any more goes, where it has no name
abbrev pub LettingGoKeepsSound : Type 0
LettingGoKeepsSound = (things : ℕ) (s : FileTree) (i : ℕ) (held : Bool) → IsSound things s → IsSound things (let_go s i held)

-- a directory that may go is removed with its name
abbrev pub RemovedDirectoryKeepsSound : Type 0
RemovedDirectoryKeepsSound =
    (things : ℕ) (s : FileTree) (now : TimeSpec) (l : ℕ × List ℕ) (i : ℕ) (held : Bool)
    → IsSound things s
    → is_fixed l.1 ≡ false
    → entry_at s l ≡ Ok (Some i)
    → spare s i held ≡ Ok tt
    → IsSound things (without_directory (without_name s now l) i)

-- A name is changed to one that means nothing or another inode, where it may be. The new name counts as one thing.
abbrev pub RenamedTreeStaysSound : Type 0
RenamedTreeStaysSound =
    (things : ℕ) (s : FileTree) (now : TimeSpec) (l m : ℕ × List ℕ) (path : List ℕ) (i : ℕ) (e : Option ℕ) (held : Bool)
    → IsSound things s
    → is_fixed l.1 ≡ false
    → is_fixed m.1 ≡ false
    → entry_at s l ≡ Ok (Some i)
    → entry_at s m ≡ Ok e
    → is_same i e ≡ false
    → may_move s i m path e held ≡ Ok tt
    → IsSound (things + 1) (renamed s now l m i e held)
