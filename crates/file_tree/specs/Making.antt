-- What a call makes: files, directories and their names.
use Rattle.std.specs.Prelude.{ℕ, ◌+◌, ◌%◌, true, List, []}
use Rattle.kernel_values.specs.declared.times.TimeSpec.{TimeSpec}
use Rattle.number_maps.specs.NumberMap.{put}
use Rattle.file_tables.specs.Contained.{empty_directory, entered}
use Rattle.file_tables.specs.Nodes.{touched}
use Rattle.file_tables.specs.Numbers.{given, new_number}
use Rattle.file_tables.specs.declared.state.Node.{Node}
use Rattle.file_tree.specs.declared.state.FileTree.{FileTree}
use Rattle.file_tree.specs.declared.state.Maker.{Maker}

-- S_IFREG, 0x8000, and the permission bits
abbrev pub file_mode : ℕ → ℕ
file_mode mode = 0x8000 + mode % 0x1000

-- S_IFDIR, 0x4000, and the low ten bits of the mode: the permission bits and the sticky bit
abbrev pub directory_mode : ℕ → ℕ
directory_mode mode = 0x4000 + mode % 0x400

-- what is made belongs to its maker, and its three times are the time of the making
abbrev pub made_node : Maker → ℕ → Node
made_node m mode = record {
  attributes = record { mode = mode; uid = m.uid; gid = m.gid; accessed = m.time; modified = m.time; changed = m.time };
  has_name = true;
}

-- a name of an inode is made in the place of a path's last name, which sets both times of that directory
abbrev pub with_name : FileTree → TimeSpec → ℕ × List ℕ → ℕ → FileTree
with_name s now l inode = record s {
  directories = entered s.directories l.0 l.1 inode;
  nodes = touched s.nodes l.0 now;
}

-- the inode number that is next
unfoldable pub next_inode : FileTree → ℕ
next_inode s = new_number s.numbers

-- that number was given
unfoldable pub with_inode_given : FileTree → FileTree
with_inode_given s = record s { numbers = given s.numbers }

-- a file without bytes and its name
unfoldable pub with_file : FileTree → Maker → ℕ × List ℕ → ℕ → FileTree
with_file s m l mode =
    let i : ℕ = new_number s.numbers in
    let e : FileTree = with_name s m.time l i in
    record e {
      numbers = given s.numbers;
      contents = put s.contents i [];
      nodes = put e.nodes i (made_node m (file_mode mode));
    }

-- a directory without names, and its own name
unfoldable pub with_directory : FileTree → Maker → ℕ × List ℕ → ℕ → FileTree
with_directory s m l mode =
    let i : ℕ = new_number s.numbers in
    let e : FileTree = with_name s m.time l i in
    record e {
      numbers = given s.numbers;
      directories = put e.directories i (empty_directory l.0);
      nodes = put e.nodes i (made_node m (directory_mode mode));
    }
