-- Renaming.
use Rattle.std.specs.Prelude.{ℕ, ◌||◌, Bool, false, List, Option, Some, None, ok_or, Result, Ok, ⊤, if◌then◌else◌}
use Rattle.kernel_values.specs.Bounds.{at_fdcwd}
use Rattle.kernel_values.specs.Outcome.{◌>>=◌, ◌>>◌, refused_if, settled}
use Rattle.kernel_values.specs.declared.errno.Errno.{Errno}
use Rattle.kernel_values.specs.declared.errno.Errno.TheVariants.{Busy, NoEntry, TableFull}
use Rattle.kernel_values.specs.declared.times.TimeSpec.{TimeSpec}
use Rattle.file_tree.specs.Paths.{last_entry}
use Rattle.file_tree.specs.Renaming as renaming
use Rattle.open_files.specs.Descriptors.{counted}
use Rattle.open_files.specs.Made.{is_full}
use Rattle.file_store.specs.Removing.{has_open, parent_named}
use Rattle.file_store.specs.declared.state.Files.{Files}

-- some open file has what a name means
abbrev pub is_entry_open : Files → Option ℕ → Bool
is_entry_open s None = false
is_entry_open s (Some j) = has_open s j

-- an inode has another name, which is made: one thing
abbrev pub renamed : Files → TimeSpec → ℕ × List ℕ → ℕ × List ℕ → ℕ → Option ℕ → Files
renamed s now l m i e = record {
  tree = renaming.renamed s.tree now l m i e (is_entry_open s e);
  open_files = counted s.open_files 1;
}

-- rename: the steps to both last names come before what these mean
abbrev pub rename : Files → TimeSpec → List ℕ → List ℕ → Result ⊤ Errno × Files
rename s now old new = settled s (do
  refused_if (is_full s.open_files.made) TableFull
  l ← parent_named s at_fdcwd old
  m ← parent_named s at_fdcwd new
  refused_if (renaming.is_fixed l.1 || renaming.is_fixed m.1) Busy
  n ← last_entry s.tree l old
  i ← ok_or n NoEntry
  e ← last_entry s.tree m new
  if renaming.is_same i e then Ok (tt, s) else do
    renaming.may_move s.tree i m new e (is_entry_open s e)
    Ok (tt, renamed s now l m i e))
