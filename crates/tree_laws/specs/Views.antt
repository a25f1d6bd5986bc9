-- What is known of an inode and of a position by looking them up.
use Rattle.std.specs.Prelude.{ℕ, ◌≡◌, zero, suc, Bool, is_some, List, Option, Some, None, option_map}
use Rattle.number_maps.specs.NumberMap.{at}
use Rattle.file_tables.specs.Directories.{parent_of}
use Rattle.file_tables.specs.declared.state.Directory.{Directory}
use Rattle.file_tables.specs.declared.state.Entry.{Entry}
use Rattle.file_tables.specs.declared.state.Node.{Node}

-- a map has a value at a number
abbrev pub is_there : {V : Type 0} → List (ℕ × V) → ℕ → Bool
is_there t i = is_some (at t i)

-- whether an inode has a name, as its node says
unfoldable pub marked : List (ℕ × Node) → ℕ → Option Bool
marked nodes i = option_map (λ (n : Node). n.has_name) (at nodes i)

-- the directory that a directory lies in
unfoldable pub lies_in : List (ℕ × Directory) → ℕ → Option ℕ
lies_in dirs i = option_map (λ (d : Directory). d.parent) (at dirs i)

-- the entry at a position of a place that is a directory
abbrev pub entry_as : ℕ → Option Directory → Option Entry
entry_as position None = None
entry_as position (Some d) = at d.names position

unfoldable pub entry_in : List (ℕ × Directory) → ℕ → ℕ → Option Entry
entry_in dirs place position = entry_as position (at dirs place)

-- where so many steps towards the root lead
unfoldable pub climbed : List (ℕ × Directory) → ℕ → ℕ → ℕ
climbed dirs place zero = place
climbed dirs place (suc n) = climbed dirs (parent_of dirs place) n

-- some steps lead to the root
pub record ReachesRoot (dirs : List (ℕ × Directory)) (place : ℕ) : Type 0 where
  pub steps : ℕ
  pub arrives : climbed dirs place steps ≡ 2
