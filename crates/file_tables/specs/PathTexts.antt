-- The path of a directory.
use Rattle.std.specs.Prelude.{ℕ, zero, suc, ◌==◌, ◌++◌, nat_lt, length, List, [], ◌∷◌, Option, Some, None, option_map, unwrap_or, if◌then◌else◌}
use Rattle.number_maps.specs.NumberMap.{at}
use Rattle.file_tables.specs.Entries.{entry_for}
use Rattle.file_tables.specs.Directories.{parent_of}
use Rattle.file_tables.specs.declared.state.Directory.{Directory}
use Rattle.file_tables.specs.declared.state.Entry.{Entry}

-- the name by which a directory has an inode
abbrev pub name_as : ℕ → Option Directory → List ℕ
name_as child None = []
name_as child (Some d) = unwrap_or (option_map (λ (e : Entry). e.name) (entry_for d.names child)) []

-- the name of an inode in a directory
unfoldable pub name_in : List (ℕ × Directory) → ℕ → ℕ → List ℕ
name_in dirs place child = name_as child (at dirs place)

-- The names from the root, inode 2, to a directory, each after a slash, in front of a text. No directory lies
-- deeper than there are directories.
unfoldable pub text_up : List (ℕ × Directory) → ℕ → List ℕ → ℕ → List ℕ
text_up dirs place text zero = text
text_up dirs place text (suc n) = if place == 2 then text else text_up dirs (parent_of dirs place) (47 ∷ (name_in dirs (parent_of dirs place) place ++ text)) n

-- a text of at most 4,095 bytes: PATH_MAX less the zero at the end
abbrev pub short_text : List ℕ → Option (List ℕ)
short_text text = if nat_lt 4095 (length text) then None else Some text

-- the root is a slash
abbrev pub path_text : List ℕ → List ℕ
path_text [] = 47 ∷ []
path_text (b ∷ bs) = b ∷ bs
