-- Directories by inode number, and what a name means in one.
use Rattle.std.specs.Prelude.{ℕ, ◌==◌, ◌&&◌, Bool, false, not, nat_lt, length, List, [], ◌∷◌, Option, Some, None, is_some, ok_or, option_map, unwrap_or, Result, Ok, if◌then◌else◌}
use Rattle.kernel_values.specs.Outcome.{◌>>=◌, ◌>>◌, refused_if}
use Rattle.kernel_values.specs.declared.errno.Errno.{Errno}
use Rattle.kernel_values.specs.declared.errno.Errno.TheVariants.{NameTooLong, NoEntry, NotDirectory}
use Rattle.number_maps.specs.NumberMap.{at}
use Rattle.file_tables.specs.Names.{ends_with_slash}
use Rattle.file_tables.specs.Entries.{named}
use Rattle.file_tables.specs.declared.state.Entry.{Entry}
use Rattle.file_tables.specs.declared.state.Directory.{Directory}

-- the name `.`
abbrev pub is_dot : List ℕ → Bool
is_dot [] = false
is_dot (b ∷ []) = b == 46
is_dot (b ∷ (c ∷ bs)) = false

-- the name `..`
abbrev pub is_dot_dot : List ℕ → Bool
is_dot_dot [] = false
is_dot_dot (b ∷ []) = false
is_dot_dot (b ∷ (c ∷ [])) = (b == 46) && (c == 46)
is_dot_dot (b ∷ (c ∷ (d ∷ bs))) = false

-- The inode that a name means in a directory: `.` is the directory itself and `..` the one that it lies in,
-- which of the root is the root.
unfoldable pub child_of : Directory → ℕ → List ℕ → Option ℕ
child_of d place name = if is_dot name then Some place else (if is_dot_dot name then Some d.parent else option_map (λ (e : ℕ × Entry). e.1.child) (named d.names name))

-- an inode is a directory
abbrev pub is_directory : List (ℕ × Directory) → ℕ → Bool
is_directory dirs inode = is_some (at dirs inode)

-- what a name means in a place, if it is there; no name means the place
unfoldable pub entry_at : List (ℕ × Directory) → ℕ → List ℕ → Result (Option ℕ) Errno
entry_at dirs place [] = Ok (Some place)
entry_at dirs place (b ∷ bs) = do
  refused_if (nat_lt 255 (length (b ∷ bs))) NameTooLong
  d ← ok_or (at dirs place) NotDirectory
  Ok (child_of d place (b ∷ bs))

-- one step of a path
unfoldable pub step : List (ℕ × Directory) → ℕ → List ℕ → Result ℕ Errno
step dirs place name = do
  n ← entry_at dirs place name
  ok_or n NoEntry

-- The steps of all names but the last, and that name. Of no names the last is none, which means the
-- place where the steps began.
unfoldable pub walk : List (ℕ × Directory) → ℕ → List ℕ → List (List ℕ) → Result (ℕ × List ℕ) Errno
walk dirs place name [] = Ok (place, name)
walk dirs place name (n ∷ ns) = do
  next ← step dirs place name
  walk dirs next n ns

-- what the last name means; a slash at the end needs a directory
unfoldable pub last_entry : List (ℕ × Directory) → ℕ × List ℕ → List ℕ → Result (Option ℕ) Errno
last_entry dirs l path = do
  n ← entry_at dirs l.0 l.1
  refused_if (ends_with_slash path && is_some n && not (is_directory dirs (unwrap_or n 0))) NotDirectory
  Ok n

-- the directory that a directory lies in
abbrev pub parent_as : ℕ → Option Directory → ℕ
parent_as place None = place
parent_as place (Some d) = d.parent

unfoldable pub parent_of : List (ℕ × Directory) → ℕ → ℕ
parent_of dirs place = parent_as place (at dirs place)
