-- What is told of a file or a directory, and of what has no name.
use Rattle.std.specs.Prelude.{ℕ, pos, ◌*◌, ok_or, Result, Ok}
use Rattle.kernel_values.specs.Outcome.{◌>>=◌}
use Rattle.kernel_values.specs.declared.errno.Errno.{Errno}
use Rattle.kernel_values.specs.declared.errno.Errno.TheVariants.{NoEntry}
use Rattle.kernel_values.specs.declared.items.Attributes.{Attributes}
use Rattle.kernel_values.specs.declared.status.Stat.{Stat}
use Rattle.kernel_values.specs.declared.times.TimeSpec.{TimeSpec}
use Rattle.file_bytes.specs.Filled.{filled_pages}
use Rattle.number_maps.specs.NumberMap.{at}
use Rattle.file_tables.specs.Links.{links_as}
use Rattle.file_tables.specs.declared.state.Node.{Node}
use Rattle.file_tree.specs.Lengths.{bytes_of, size_of}
use Rattle.file_tree.specs.declared.state.FileTree.{FileTree}
use Rattle.file_tree.specs.declared.state.Maker.{Maker}

-- the time at which the image was made
abbrev pub no_time : TimeSpec
no_time = record { seconds = pos 0; nanos = pos 0 }

-- how many names an inode has
unfoldable pub links_of : FileTree → ℕ → Node → ℕ
links_of s inode n = links_as s.directories n (at s.directories inode)

-- what is told of an inode with these links and this size, in so many blocks of 512 bytes
abbrev pub status_with : ℕ → Attributes → ℕ → ℕ → ℕ → Stat
status_with inode a links size blocks = record {
  dev = 1;
  ino = inode;
  mode = a.mode;
  nlink = links;
  uid = a.uid;
  gid = a.gid;
  rdev = 0;
  size = pos size;
  blksize = 4096;
  blocks = blocks;
  atime = a.accessed;
  mtime = a.modified;
  ctime = a.changed;
}

-- a page that holds a byte other than 0 takes 8 blocks
abbrev pub node_status : FileTree → ℕ → Node → Stat
node_status s inode n = status_with inode n.attributes (links_of s inode n) (size_of s inode) (8 * filled_pages (bytes_of s inode))

-- a file or a directory
unfoldable pub inode_status : FileTree → ℕ → Result Stat Errno
inode_status s inode = do
  n ← ok_or (at s.nodes inode) NoEntry
  Ok (node_status s inode n)

-- what stands in no directory, as a pipe: it belongs to the owner of the process, has no bytes and no times
abbrev pub nameless_status : Maker → ℕ → ℕ → Stat
nameless_status owner mode inode =
    status_with inode (record { mode = mode; uid = owner.uid; gid = owner.gid; accessed = no_time; modified = no_time; changed = no_time }) 1 0 0
