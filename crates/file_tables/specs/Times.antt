-- The times that utimensat sets.
use Rattle.std.specs.Prelude.{ℕ, ℤ, pos, negsuc, ◌==◌, ◌||◌, Bool, false, not, nat_lt, List, Option, Some, None, if◌then◌else◌}
use Rattle.kernel_values.specs.declared.items.Attributes.{Attributes}
use Rattle.kernel_values.specs.declared.status.FileTimes.{FileTimes}
use Rattle.kernel_values.specs.declared.times.TimeSpec.{TimeSpec}
use Rattle.number_maps.specs.NumberMap.{at, put}
use Rattle.file_tables.specs.declared.state.Node.{Node}

-- UTIME_NOW is 0x3fffffff and UTIME_OMIT 0x3ffffffe
abbrev pub is_now : ℤ → Bool
is_now (pos n) = n == 0x3fffffff
is_now (negsuc n) = false

abbrev pub is_omitted : ℤ → Bool
is_omitted (pos n) = n == 0x3ffffffe
is_omitted (negsuc n) = false

-- a part of a second
abbrev pub is_fraction : ℤ → Bool
is_fraction (pos n) = nat_lt n 1000000000
is_fraction (negsuc n) = false

-- the nanoseconds are neither a part of a second nor one of both words; seconds have no range
abbrev pub is_bad_choice : TimeSpec → Bool
is_bad_choice t = not (is_now t.nanos || (is_omitted t.nanos || is_fraction t.nanos))

abbrev pub are_bad_times : Option FileTimes → Bool
are_bad_times None = false
are_bad_times (Some t) = is_bad_choice t.accessed || is_bad_choice t.modified

-- now, or as it was, or the time given
abbrev pub chosen : TimeSpec → TimeSpec → TimeSpec → TimeSpec
chosen now old given = if is_now given.nanos then now else (if is_omitted given.nanos then old else given)

-- no times mean now; the time of the change is now in any case
abbrev pub retimed : TimeSpec → Option FileTimes → Attributes → Attributes
retimed now None a = record a { accessed = now; modified = now; changed = now }
retimed now (Some t) a = record a {
  accessed = chosen now a.accessed t.accessed;
  modified = chosen now a.modified t.modified;
  changed = now;
}

-- what is no file and no directory, as a pipe, has no times
abbrev pub retimed_as : List (ℕ × Node) → ℕ → TimeSpec → Option FileTimes → Option Node → List (ℕ × Node)
retimed_as nodes inode now times None = nodes
retimed_as nodes inode now times (Some n) = put nodes inode (record n { attributes = retimed now times n.attributes })

unfoldable pub retimed_node : List (ℕ × Node) → ℕ → TimeSpec → Option FileTimes → List (ℕ × Node)
retimed_node nodes inode now times = retimed_as nodes inode now times (at nodes inode)
