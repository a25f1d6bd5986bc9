-- The removing of names, and of what they meant. Whether an open file has an inode is handed in.
use Rattle.std.specs.Prelude.{ℕ, ◌==◌, ◌||◌, Bool, not, length, List, ok_or, Result, ⊤, if◌then◌else◌}
use Rattle.kernel_values.specs.Outcome.{◌>>=◌, ◌>>◌, refused_if}
use Rattle.kernel_values.specs.declared.errno.Errno.{Errno}
use Rattle.kernel_values.specs.declared.errno.Errno.TheVariants.{Busy, NotDirectory, NotEmpty}
use Rattle.kernel_values.specs.declared.times.TimeSpec.{TimeSpec}
use Rattle.number_maps.specs.NumberMap.{at, removed}
use Rattle.file_tables.specs.Contained.{left}
use Rattle.file_tables.specs.Nodes.{nameless, stays_as, touched}
use Rattle.file_tree.specs.declared.state.FileTree.{FileTree}

-- the name in the place of a path's last name is gone, which sets both times of that directory
unfoldable pub without_name : FileTree → TimeSpec → ℕ × List ℕ → FileTree
without_name s now l = record s {
  directories = left s.directories l.0 l.1;
  nodes = touched s.nodes l.0 now;
}

-- a file without a name lasts while an open file has it
unfoldable pub unnamed : FileTree → ℕ → Bool → FileTree
unnamed s inode held = if held then record s { nodes = nameless s.nodes inode } else record s { nodes = removed s.nodes inode; contents = removed s.contents inode }

-- an inode that no open file has any more, where `held` is false, goes with its last name
unfoldable pub let_go : FileTree → ℕ → Bool → FileTree
let_go s inode held = if stays_as (at s.nodes inode) || held then s else record s { nodes = removed s.nodes inode; contents = removed s.contents inode }

-- a directory that may go or be replaced: it has no names, isn't the working one, and no open file has it
unfoldable pub spare : FileTree → ℕ → Bool → Result ⊤ Errno
spare s inode held = do
  d ← ok_or (at s.directories inode) NotDirectory
  refused_if (not (length d.names == 0)) NotEmpty
  refused_if ((s.working == inode) || held) Busy

-- a directory and what it has in common with files are gone
unfoldable pub without_directory : FileTree → ℕ → FileTree
without_directory s inode = record s {
  directories = removed s.directories inode;
  nodes = removed s.nodes inode;
}

-- the locks of the process on a file are gone
unfoldable pub without_locks_on : FileTree → ℕ → FileTree
without_locks_on s inode = record s { own_locks = removed s.own_locks inode }
