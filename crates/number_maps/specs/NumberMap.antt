-- Finite maps from numbers, as their entries by ascending key.
use Rattle.std.specs.Prelude.{ℕ, zero, suc, ◌+◌, Bool, List, Option, Some, None, is_some, nat_lt, if◌then◌else◌}
use Rattle.std.specs.Ordering.{nat_cmp}
use Rattle.std.specs.BTreeMap.{insert_entry, is_at}
use Rattle.std.specs.List.{filter}
use Rattle.std.specs.List.Sorted.{IsStrictlySortedBy}
use Rattle.std.specs.Map.{keys_of, lookup, remove_entry, set_value}

-- the keys ascend
abbrev pub IsAscending : {V : Type 0} → List (ℕ × V) → Type 0
IsAscending t = IsStrictlySortedBy nat_cmp (keys_of t)

-- the value at a key
abbrev pub at : {V : Type 0} → List (ℕ × V) → ℕ → Option V
at t key = lookup (is_at (nat_cmp key)) t

-- a value at a key, in place of the one that stood there
abbrev pub put : {V : Type 0} → List (ℕ × V) → ℕ → V → List (ℕ × V)
put t key value = insert_entry nat_cmp t key value

-- another value at a key that has one
abbrev pub changed : {V : Type 0} → List (ℕ × V) → ℕ → V → List (ℕ × V)
changed t key value = set_value (is_at (nat_cmp key)) t value

-- the same without the value at a key
abbrev pub removed : {V : Type 0} → List (ℕ × V) → ℕ → List (ℕ × V)
removed t key = remove_entry (is_at (nat_cmp key)) t

-- an entry stands at a greater key
abbrev pub is_after : {V : Type 0} → ℕ → ℕ × V → Bool
is_after key entry = nat_lt key entry.0

-- the entries whose keys are greater than a key
unfoldable pub after_key : {V : Type 0} → List (ℕ × V) → ℕ → List (ℕ × V)
after_key t key = filter (is_after key) t

-- the entries after the last key told, all of them where none was told
abbrev pub after : {V : Type 0} → List (ℕ × V) → Option ℕ → List (ℕ × V)
after t None = t
after t (Some key) = after_key t key

-- the first number without a value, among so many from a number on
unfoldable pub first_free : {V : Type 0} → List (ℕ × V) → ℕ → ℕ → Option ℕ
first_free t from zero = None
first_free t from (suc n) = if is_some (at t from) then first_free t (from + 1) n else Some from
