-- The lines of a directory, as a listing tells them.
use Rattle.std.specs.Prelude.{ℕ, List, [], ◌∷◌, map, if◌then◌else◌}
use Rattle.kernel_values.specs.declared.listing.DirEntry.{DirEntry}
use Rattle.number_maps.specs.NumberMap.{after_key}
use Rattle.file_tables.specs.Directories.{is_directory}
use Rattle.file_tables.specs.declared.state.Directory.{Directory}
use Rattle.file_tables.specs.declared.state.Entry.{Entry}

-- an entry at its position: a name and the inode that it means
abbrev pub Line : Type 0
Line = ℕ × (List ℕ × ℕ)

abbrev pub line_of : ℕ × Entry → Line
line_of e = (e.0, (e.1.name, e.1.child))

-- the lines of the directory that is inode `here`: `.` at 1, `..` at 2, and the names behind them by ascending position
unfoldable pub lines : Directory → ℕ → List Line
lines d here = (1, (46 ∷ [], here)) ∷ ((2, (46 ∷ (46 ∷ []), d.parent)) ∷ map line_of (after_key d.names 2))

-- DT_DIR and DT_REG
abbrev pub entry_kind : List (ℕ × Directory) → ℕ → ℕ
entry_kind dirs inode = if is_directory dirs inode then 4 else 8

-- a line as it is told
abbrev pub told : List (ℕ × Directory) → Line → DirEntry
told dirs l = record { inode = l.1.1; position = l.0; kind = entry_kind dirs l.1.1; name = l.1.0 }

-- the entries at a greater position, ascending
unfoldable pub listed_after : List (ℕ × Directory) → Directory → ℕ → ℕ → List DirEntry
listed_after dirs d here position = map (told dirs) (after_key (lines d here) position)
