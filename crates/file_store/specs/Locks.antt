-- The locks of files that are open.
use Rattle.std.specs.Prelude.{ℤ, not, Result, ⊤}
use Rattle.kernel_values.specs.Outcome.{◌>>=◌, ◌>>◌, refused_if, settled}
use Rattle.kernel_values.specs.declared.errno.Errno.{Errno}
use Rattle.kernel_values.specs.declared.errno.Errno.TheVariants.{InvalidArgument}
use Rattle.kernel_values.specs.declared.locks.Lock.{Lock}
use Rattle.file_tree.specs.Locks as tree
use Rattle.open_files.specs.Descriptors.{open_file}
use Rattle.open_files.specs.Kinds.{is_of_file}
use Rattle.file_store.specs.State.{with_tree}
use Rattle.file_store.specs.declared.state.Files.{Files}

-- F_GETLK
unfoldable pub find_lock : Files → ℤ → Lock → Result Lock Errno
find_lock s fd l = do
  f ← open_file s.open_files fd
  refused_if (not (is_of_file f.1.kind)) InvalidArgument
  tree.find_lock s.tree f.1.inode f.1.position l

-- F_SETLK and F_SETLKW, which doesn't wait either
abbrev pub set_lock : Files → ℤ → Lock → Result ⊤ Errno × Files
set_lock s fd l = settled s (do
  f ← open_file s.open_files fd
  refused_if (not (is_of_file f.1.kind)) InvalidArgument
  with_tree s (tree.set_lock s.tree f.1.inode f.1.position f.1.flags l))
