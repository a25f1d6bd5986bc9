-- The listing of a directory that is open.
use Rattle.std.specs.Prelude.{ℕ, ℤ, List, Result}
use Rattle.kernel_values.specs.Outcome.{◌>>=◌}
use Rattle.kernel_values.specs.declared.errno.Errno.{Errno}
use Rattle.kernel_values.specs.declared.listing.DirEntry.{DirEntry}
use Rattle.file_tree.specs.Listing as tree
use Rattle.open_files.specs.Descriptors.{open_file}
use Rattle.file_store.specs.declared.state.Files.{Files}

-- the listing of a directory that is open, from a position on
unfoldable pub listing : Files → ℤ → ℕ → Result (List DirEntry) Errno
listing s fd position = do
  f ← open_file s.open_files fd
  tree.listing s.tree f.1.inode position
