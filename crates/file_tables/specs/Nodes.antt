-- What a file and a directory have in common: their times, and whether they have a name.
use Rattle.std.specs.Prelude.{ℕ, true, List, Option, Some, None, false, Bool}
use Rattle.kernel_values.specs.declared.times.TimeSpec.{TimeSpec}
use Rattle.number_maps.specs.NumberMap.{at, put}
use Rattle.file_tables.specs.declared.state.Node.{Node}

-- modified and changed at a time
abbrev pub touched_as : List (ℕ × Node) → ℕ → TimeSpec → Option Node → List (ℕ × Node)
touched_as nodes inode now None = nodes
touched_as nodes inode now (Some n) = put nodes inode (record n { attributes = record n.attributes { modified = now; changed = now } })

unfoldable pub touched : List (ℕ × Node) → ℕ → TimeSpec → List (ℕ × Node)
touched nodes inode now = touched_as nodes inode now (at nodes inode)

-- no directory has a name of an inode any more
abbrev pub nameless_as : List (ℕ × Node) → ℕ → Option Node → List (ℕ × Node)
nameless_as nodes inode None = nodes
nameless_as nodes inode (Some n) = put nodes inode (record n { has_name = false })

unfoldable pub nameless : List (ℕ × Node) → ℕ → List (ℕ × Node)
nameless nodes inode = nameless_as nodes inode (at nodes inode)

-- a directory has a name of it
abbrev pub stays_as : Option Node → Bool
stays_as None = true
stays_as (Some n) = n.has_name
