-- Another working directory.
use Rattle.std.specs.Prelude.{ℤ, ℕ, not, List, Result, Ok, ⊤}
use Rattle.kernel_values.specs.Outcome.{◌>>=◌, ◌>>◌, refused_if, settled}
use Rattle.kernel_values.specs.declared.errno.Errno.{Errno}
use Rattle.kernel_values.specs.declared.errno.Errno.TheVariants.{NotDirectory}
use Rattle.file_tree.specs.Paths.{is_directory}
use Rattle.file_tree.specs.Working.{with_working}
use Rattle.file_store.specs.Paths.{resolve}
use Rattle.file_store.specs.declared.state.Files.{Files}

-- chdir
abbrev pub change_directory : Files → ℤ → List ℕ → Result ⊤ Errno × Files
change_directory s from path = settled s (do
  i ← resolve s from path
  refused_if (not (is_directory s.tree i)) NotDirectory
  Ok (tt, record s { tree = with_working s.tree i }))
