-- The making of directories.
use Rattle.std.specs.Prelude.{ℕ, ℤ, List, is_some, Result, Ok, ⊤}
use Rattle.kernel_values.specs.Outcome.{◌>>=◌, ◌>>◌, refused_if, settled}
use Rattle.kernel_values.specs.declared.errno.Errno.{Errno}
use Rattle.kernel_values.specs.declared.errno.Errno.TheVariants.{Exists, TableFull}
use Rattle.file_tree.specs.Making as making
use Rattle.file_tree.specs.Paths.{last_entry}
use Rattle.file_tree.specs.declared.state.Maker.{Maker}
use Rattle.open_files.specs.Descriptors.{counted}
use Rattle.open_files.specs.Made.{is_full}
use Rattle.file_store.specs.Paths.{resolve_parent}
use Rattle.file_store.specs.declared.state.Files.{Files}

-- a directory without names, and its own name: two things are made
abbrev pub with_directory : Files → Maker → ℕ × List ℕ → ℕ → Files
with_directory s m l mode = record {
  tree = making.with_directory s.tree m l mode;
  open_files = counted s.open_files 2;
}

-- mkdir and mkdirat: a last name that is there, `.` and `..` too, is refused
abbrev pub make_directory : Files → Maker → ℤ → List ℕ → ℕ → Result ⊤ Errno × Files
make_directory s m from path mode = settled s (do
  refused_if (is_full s.open_files.made) TableFull
  l ← resolve_parent s from path
  n ← last_entry s.tree l path
  refused_if (is_some n) Exists
  Ok (tt, with_directory s m l mode))
