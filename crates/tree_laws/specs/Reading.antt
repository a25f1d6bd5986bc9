-- What a reader of a sound tree may rely on.
use Rattle.std.specs.Prelude.{◌≡◌, ◌≢◌, ◌≤◌, ◌<◌, ◌+◌, ◌-◌, ◌^◌, ℕ, true, false, length, List, Some, None, Ok, Option, map}
use Rattle.std.specs.List.{AllByRecursion, IsDistinct}
use Rattle.std.specs.Map.{keys_of}
use Rattle.std.specs.Str.{bytes_eq}
use Rattle.kernel_values.specs.Bounds.{most_narrow}
use Rattle.kernel_values.specs.declared.listing.DirEntry.{DirEntry}
use Rattle.number_maps.specs.NumberMap.{IsAscending, at, first_free}
use Rattle.file_tables.specs.Links.{directories_among, directory_links}
use Rattle.file_tables.specs.Places.{lies_inside}
use Rattle.file_tables.specs.declared.state.Directory.{Directory}
use Rattle.file_tables.specs.declared.state.Entry.{Entry}
use Rattle.file_tree.specs.Listing.{listing}
use Rattle.file_tree.specs.Making.{next_inode}
use Rattle.file_tree.specs.Paths.{entry_at, is_directory, parent_from}
use Rattle.file_tree.specs.Renaming.{is_fixed}
use Rattle.file_tree.specs.declared.state.FileTree.{FileTree}
use Rattle.tree_laws.specs.Sound.{IsSound}
use Rattle.tree_laws.specs.Views.{climbed, entry_in, is_there, lies_in}

-- The next inode number was found among those that can be given, no inode has it, and it fits the 32 bits in which st_ino of
-- `include/uapi/asm/stat.h` tells it.
pub record IsNew (s : FileTree) : Type 0 where
  pub found : first_free s.numbers.image s.numbers.next (2 ^ 63 - s.numbers.next) ≡ Some (next_inode s)
  pub unused : is_there s.nodes (next_inode s) ≡ false
  pub directory : is_directory s (next_inode s) ≡ false
  pub narrow : next_inode s < 2 ^ 32

abbrev pub NextInodeIsNew : Type 0
NextInodeIsNew = (things : ℕ) (s : FileTree) → IsSound things s → things < 2 ^ 31 → IsNew s

-- no name stands at the next position of a directory
abbrev pub NextPositionIsFree : Type 0
NextPositionIsFree = (things : ℕ) (s : FileTree) (place : ℕ) (d : Directory) → IsSound things s → at s.directories place ≡ Some d → at d.names (d.last + 1) ≡ None

-- The names of a directory stand by ascending position behind those of `.` and `..`, and no two are the same.
pub record AreListable (d : Directory) : Type 0 where
  pub ascend : IsAscending d.names
  pub behind : AllByRecursion (λ p. 2 < p) (keys_of d.names)
  pub once : IsDistinct bytes_eq (map (λ (e : ℕ × Entry). e.1.name) d.names)

abbrev pub NamesAreListable : Type 0
NamesAreListable = (things : ℕ) (s : FileTree) (place : ℕ) (d : Directory) → IsSound things s → at s.directories place ≡ Some d → AreListable d

-- What is told of entries fits a process of 32 bits: below 2^31 - 2 things, each position is at most 2^31 - 1.
abbrev pub ListedPositionsAreNarrow : Type 0
ListedPositionsAreNarrow =
    (things : ℕ) (s : FileTree) (inode position : ℕ) (es : List DirEntry)
    → IsSound things s
    → things < 2 ^ 31 - 2
    → listing s inode position ≡ Ok es
    → AllByRecursion (λ (e : DirEntry). e.position ≤ most_narrow) es

-- Fewer steps than there are directories lead from each to the root, so whoever climbs so many of them has come there.
pub record IsShallow (dirs : List (ℕ × Directory)) (i : ℕ) : Type 0 where
  pub steps : ℕ
  pub fewer : steps < length dirs
  pub arrives : climbed dirs i steps ≡ 2

abbrev pub DirectoriesAreShallow : Type 0
DirectoriesAreShallow = (things : ℕ) (s : FileTree) (i : ℕ) → IsSound things s → is_directory s i ≡ true → IsShallow s.directories i

-- A directory that isn't found inside another, within as many steps as there are directories, isn't there however far one climbs.
abbrev pub OutsideIsNowhereInside : Type 0
OutsideIsNowhereInside =
    (things : ℕ) (s : FileTree) (i place n : ℕ)
    → IsSound things s
    → is_directory s place ≡ true
    → lies_inside s.directories i place ≡ false
    → climbed s.directories place n ≢ i

-- no way up from a directory leads back to it, but for the root's
abbrev pub NoDirectoryLiesInItself : Type 0
NoDirectoryLiesInItself =
    (things : ℕ) (s : FileTree) (i n : ℕ)
    → IsSound things s
    → is_directory s i ≡ true
    → i ≢ 2
    → 0 < n
    → climbed s.directories i n ≢ i

-- each link of a directory is told: their number is never cut to 32 bits
abbrev pub LinksAreNotCut : Type 0
LinksAreNotCut =
    (things : ℕ) (s : FileTree) (inode : ℕ) (d : Directory)
    → IsSound things s
    → things < 2 ^ 31
    → at s.directories inode ≡ Some d
    → directory_links s.directories d ≡ 2 + directories_among s.directories d.names

-- A directory has one name, which stands in the directory that it lies in.
pub record StandsOnce (s : FileTree) (i parent : ℕ) : Type 0 where
  pub position : ℕ
  pub entry : Entry
  pub there : entry_in s.directories parent position ≡ Some entry
  pub means : entry.child ≡ i
  pub once : (q p : ℕ) (e : Entry) → entry_in s.directories q p ≡ Some e → e.child ≡ i → (q ≡ parent) × (p ≡ position)

abbrev pub DirectoryStandsOnce : Type 0
DirectoryStandsOnce = (things : ℕ) (s : FileTree) (i parent : ℕ) → IsSound things s → lies_in s.directories i ≡ Some parent → i ≢ 2 → StandsOnce s i parent

-- where the steps of a path lead to a name that could be looked up, they lead to a directory
abbrev pub StepsLeadToDirectory : Type 0
StepsLeadToDirectory =
    (s : FileTree) (start : ℕ) (path : List ℕ) (l : ℕ × List ℕ) (e : Option ℕ)
    → is_directory s start ≡ true
    → parent_from s start path ≡ Ok l
    → entry_at s l ≡ Ok e
    → is_directory s l.0 ≡ true

-- no name, `.` and `..` mean directories, so the name of a file is another
abbrev pub FixedNamesMeanDirectories : Type 0
FixedNamesMeanDirectories =
    (things : ℕ) (s : FileTree) (l : ℕ × List ℕ) (i : ℕ)
    → IsSound things s
    → is_directory s l.0 ≡ true
    → is_fixed l.1 ≡ true
    → entry_at s l ≡ Ok (Some i)
    → is_directory s i ≡ true

-- what a name means in a directory is there
abbrev pub NamedInodeIsThere : Type 0
NamedInodeIsThere =
    (things : ℕ) (s : FileTree) (l : ℕ × List ℕ) (i : ℕ)
    → IsSound things s
    → is_directory s l.0 ≡ true
    → entry_at s l ≡ Ok (Some i)
    → is_there s.nodes i ≡ true
