-- What the laws on open files ask of the tree holds of each tree that can be made.
use Rattle.std.specs.Prelude.{◌<◌, ◌^◌, ℕ}
use Rattle.file_tree.specs.declared.state.FileTree.{FileTree}
use Rattle.sound_files.specs.Sound.{HasSizes, IsWhole}
use Rattle.tree_laws.specs.Runs.{Made}
use Rattle.tree_laws.specs.Sound.{IsSound}

-- a tree is whole, and no file in it is too long
pub record IsFit (t : FileTree) : Type 0 where
  pub whole : IsWhole t
  pub sizes : HasSizes t

abbrev pub SoundTreesAreWhole : Type 0
SoundTreesAreWhole = (things : ℕ) (t : FileTree) → IsSound things t → things < 2 ^ 31 → IsFit t

abbrev pub MadeTreesAreWhole : Type 0
MadeTreesAreWhole = (things : ℕ) (t : FileTree) → Made things t → things < 2 ^ 31 → IsFit t
