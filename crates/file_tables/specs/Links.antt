-- The links of files and directories.
use Rattle.std.specs.Prelude.{ℕ, ◌+◌, ◌-◌, ◌^◌, min, List, [], ◌∷◌, Option, Some, None, if◌then◌else◌}
use Rattle.file_tables.specs.Directories.{is_directory}
use Rattle.file_tables.specs.declared.state.Directory.{Directory}
use Rattle.file_tables.specs.declared.state.Entry.{Entry}
use Rattle.file_tables.specs.declared.state.Node.{Node}

-- how many of some names mean directories
unfoldable pub directories_among : List (ℕ × Directory) → List (ℕ × Entry) → ℕ
directories_among dirs [] = 0
directories_among dirs (e ∷ es) = if is_directory dirs e.1.child then directories_among dirs es + 1 else directories_among dirs es

-- The links of a directory: its name, its `.`, and the `..` of each directory in it. The number has 32 bits, which is
-- more than the names that can be made.
abbrev pub directory_links : List (ℕ × Directory) → Directory → ℕ
directory_links dirs d = min (2 + directories_among dirs d.names) (2 ^ 32 - 1)

-- a file has one name, or none
abbrev pub links_as : List (ℕ × Directory) → Node → Option Directory → ℕ
links_as dirs n (Some d) = directory_links dirs d
links_as dirs n None = if n.has_name then 1 else 0
