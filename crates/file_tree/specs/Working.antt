-- The working directory.
use Rattle.std.specs.Prelude.{ℕ, ◌+◌, ◌++◌, nat_lt, length, List, [], ◌∷◌, ok_or, Result, Ok}
use Rattle.kernel_values.specs.Outcome.{◌>>=◌, ◌>>◌, refused_if}
use Rattle.kernel_values.specs.declared.errno.Errno.{Errno}
use Rattle.kernel_values.specs.declared.errno.Errno.TheVariants.{NameTooLong, OutOfRange}
use Rattle.file_tables.specs.PathTexts.{path_text, short_text, text_up}
use Rattle.file_tree.specs.declared.state.FileTree.{FileTree}

-- the path of the working directory
unfoldable pub working_text : FileTree → List ℕ
working_text s = path_text (text_up s.directories s.working [] (length s.directories))

-- getcwd: the path with a zero at its end, in at most 4,096 bytes and at most as many as there is room for
unfoldable pub current_directory : FileTree → ℕ → Result (List ℕ) Errno
current_directory s size = do
  text ← ok_or (short_text (working_text s)) NameTooLong
  refused_if (nat_lt size (length text + 1)) OutOfRange
  Ok (text ++ 0 ∷ [])

-- another working directory
unfoldable pub with_working : FileTree → ℕ → FileTree
with_working s inode = record s { working = inode }
