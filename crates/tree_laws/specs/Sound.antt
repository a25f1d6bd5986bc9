-- What holds in every state of the file tree, however many things were made in it.
use Rattle.std.specs.Prelude.{◌≡◌, ◌≢◌, ◌≤◌, ◌<◌, ℕ, ◌+◌, ◌==◌, ◌&&◌, ◌||◌, nat_le, nat_lt, not, Bool, true, false, is_some, List, length, Some, ⊤}
use Rattle.std.specs.List.{filter}
use Rattle.kernel_values.specs.Bounds.{most_file_bytes}
use Rattle.number_maps.specs.NumberMap.{IsAscending, at}
use Rattle.file_tables.specs.declared.state.Directory.{Directory}
use Rattle.file_tables.specs.declared.state.Entry.{Entry}
use Rattle.file_tables.specs.declared.state.InodeNumbers.{InodeNumbers}
use Rattle.file_tables.specs.declared.state.Node.{Node}
use Rattle.file_tree.specs.Renaming.{is_fixed}
use Rattle.file_tree.specs.declared.state.FileTree.{FileTree}
use Rattle.tree_laws.specs.Views.{ReachesRoot, entry_in, is_there, lies_in, marked}

-- inodes are listed by ascending number
pub record MapsAscend (t : FileTree) : Type 0 where
  pub nodes : IsAscending t.nodes
  pub directories : IsAscending t.directories
  pub contents : IsAscending t.contents

-- An inode that has a node is a directory or a file with bytes, and never both; none else is either.
pub record KindsSound (t : FileTree) : Type 0 where
  pub some : (i : ℕ) → is_there t.nodes i ≡ (is_there t.directories i || is_there t.contents i)
  pub one : (i : ℕ) → (is_there t.directories i && is_there t.contents i) ≡ false

-- the root's number, one that a line of the image names, or one that was given
abbrev pub is_known : InodeNumbers → ℕ → Bool
is_known n i = (i == 2) || (is_some (at n.image i) || (nat_le 0x1000 i && nat_lt i n.next))

-- the numbers of the image that are still to be passed over
abbrev pub is_ahead : ℕ → ℕ × ⊤ → Bool
is_ahead next e = nat_le next e.0

abbrev pub ahead : InodeNumbers → ℕ
ahead n = length (filter (is_ahead n.next) n.image)

-- Numbers are given upwards from 0x1000, no further than things were made, and an inode has one of them.
pub record NumbersSound (things : ℕ) (n : InodeNumbers) (nodes : List (ℕ × Node)) : Type 0 where
  pub least : 0x1000 ≤ n.next
  pub counted : n.next + ahead n ≤ 0x1000 + things
  pub known : (i : ℕ) → is_there nodes i ≡ true → is_known n i ≡ true

-- a name that a directory may have: it isn't empty, `.` or `..`, and has at most 255 bytes, NAME_MAX of
-- `include/uapi/linux/limits.h`
abbrev pub is_name : List ℕ → Bool
is_name name = not (is_fixed name) && nat_le (length name) 255

-- Names stand by ascending position behind those of `.` and `..`, at most as far as things were made, each once.
pub record HasSoundNames (things : ℕ) (d : Directory) : Type 0 where
  pub ascend : IsAscending d.names
  pub least : 2 ≤ d.last
  pub counted : d.last ≤ things + 2
  pub behind : (p : ℕ) (e : Entry) → at d.names p ≡ Some e → 2 < p
  pub placed : (p : ℕ) (e : Entry) → at d.names p ≡ Some e → p ≤ d.last
  pub plain : (p : ℕ) (e : Entry) → at d.names p ≡ Some e → is_name e.name ≡ true
  pub once : (p r : ℕ) (e f : Entry) → at d.names p ≡ Some e → at d.names r ≡ Some f → e.name ≡ f.name → p ≡ r

abbrev pub PositionsSound : ℕ → List (ℕ × Directory) → Type 0
PositionsSound things dirs = (place : ℕ) (d : Directory) → at dirs place ≡ Some d → HasSoundNames things d

-- some name means an inode
pub record IsNamed (dirs : List (ℕ × Directory)) (i : ℕ) : Type 0 where
  pub place : ℕ
  pub position : ℕ
  pub entry : Entry
  pub there : entry_in dirs place position ≡ Some entry
  pub means : entry.child ≡ i

-- Exactly the inodes marked so have a name, the root aside, which has none, and each has one alone. A directory has one, in the
-- directory that it lies in.
pub record NamesSound (nodes : List (ℕ × Node)) (dirs : List (ℕ × Directory)) : Type 0 where
  pub meant : (q p : ℕ) (e : Entry) → entry_in dirs q p ≡ Some e → marked nodes e.child ≡ Some true
  pub rootless : (q p : ℕ) (e : Entry) → entry_in dirs q p ≡ Some e → e.child ≢ 2
  pub alone : (q p r s : ℕ) (e f : Entry) → entry_in dirs q p ≡ Some e → entry_in dirs r s ≡ Some f → e.child ≡ f.child → (q ≡ r) × (p ≡ s)
  pub up : (q p z : ℕ) (e : Entry) → entry_in dirs q p ≡ Some e → lies_in dirs e.child ≡ Some z → z ≡ q
  pub stands : (i : ℕ) → marked nodes i ≡ Some true → i ≢ 2 → IsNamed dirs i
  pub directories : (i z : ℕ) → lies_in dirs i ≡ Some z → marked nodes i ≡ Some true

-- each directory lies below the root
abbrev pub ReachSound : List (ℕ × Directory) → Type 0
ReachSound dirs = (i z : ℕ) → lies_in dirs i ≡ Some z → ReachesRoot dirs i

-- no file is longer than a file may be
abbrev pub SizesSound : List (ℕ × List ℕ) → Type 0
SizesSound contents = (i : ℕ) (bytes : List ℕ) → at contents i ≡ Some bytes → length bytes ≤ most_file_bytes

-- The tree is sound, where at most so many things were made: an inode with its name, a number alone, or a name that moved.
pub record IsSound (things : ℕ) (t : FileTree) : Type 0 where
  pub ascend : MapsAscend t
  pub kinds : KindsSound t
  pub numbers : NumbersSound things t.numbers t.nodes
  pub positions : PositionsSound things t.directories
  pub root : lies_in t.directories 2 ≡ Some 2
  pub names : NamesSound t.nodes t.directories
  pub reach : ReachSound t.directories
  pub sizes : SizesSound t.contents
  pub working : is_there t.directories t.working ≡ true
