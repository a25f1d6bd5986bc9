-- Names put into directories, and taken out of them.
use Rattle.std.specs.Prelude.{ℕ, ◌+◌, List, [], Option, Some, None}
use Rattle.number_maps.specs.NumberMap.{at, changed, put, removed}
use Rattle.file_tables.specs.declared.state.Directory.{Directory}
use Rattle.file_tables.specs.Entries.{named}
use Rattle.file_tables.specs.declared.state.Entry.{Entry}

-- the entry is gone; its position isn't given again, since the last position given stays
abbrev pub without_entry : Directory → Option (ℕ × Entry) → Directory
without_entry d None = d
without_entry d (Some e) = record d { names = removed d.names e.0 }

-- a name at the next position
abbrev pub with_next : Directory → List ℕ → ℕ → Directory
with_next d name child = record d { last = d.last + 1; names = put d.names (d.last + 1) (record { name = name; child = child }) }

-- A name stands once in a directory, so one that is there leaves its old position. No call enters such a name: each looks it
-- up before, or takes it out.
abbrev pub with_entry : Directory → List ℕ → ℕ → Directory
with_entry d name child = with_next (without_entry d (named d.names name)) name child

-- a directory with one more name
abbrev pub entered_as : List (ℕ × Directory) → ℕ → List ℕ → ℕ → Option Directory → List (ℕ × Directory)
entered_as dirs place name child None = dirs
entered_as dirs place name child (Some d) = changed dirs place (with_entry d name child)

unfoldable pub entered : List (ℕ × Directory) → ℕ → List ℕ → ℕ → List (ℕ × Directory)
entered dirs place name child = entered_as dirs place name child (at dirs place)

-- `.` and `..` stand at positions 1 and 2
abbrev pub empty_directory : ℕ → Directory
empty_directory parent = record { parent = parent; last = 2; names = [] }

-- a directory with one name less, where it is there
abbrev pub left_as : List (ℕ × Directory) → ℕ → List ℕ → Option Directory → List (ℕ × Directory)
left_as dirs place name None = dirs
left_as dirs place name (Some d) = changed dirs place (without_entry d (named d.names name))

unfoldable pub left : List (ℕ × Directory) → ℕ → List ℕ → List (ℕ × Directory)
left dirs place name = left_as dirs place name (at dirs place)
