-- The tree at first, and what the image puts into it.
use Rattle.std.specs.Prelude.{ℕ, ◌+◌, ◌==◌, ◌&&◌, ◌++◌, Bool, true, false, not, nat_lt, is_some, length, replicate, List, [], ◌∷◌, Option, Some, None, Result, Ok, Err, ⊤, ok_or}
use Rattle.kernel_values.specs.Bounds.{most_file_bytes}
use Rattle.kernel_values.specs.Outcome.{◌>>=◌, ◌>>◌, refused_if, settled}
use Rattle.kernel_values.specs.declared.errno.Errno.{Errno}
use Rattle.kernel_values.specs.declared.errno.Errno.TheVariants.{FileTooLarge, NoEntry}
use Rattle.number_maps.specs.NumberMap.{at, put}
use Rattle.record_locks.specs.Foreign.{foreign_lock}
use Rattle.file_tables.specs.Contained.{empty_directory}
use Rattle.file_tables.specs.declared.state.Node.{Node}
use Rattle.file_tree.specs.Contents.{reaches}
use Rattle.file_tree.specs.Lengths.{with_bytes}
use Rattle.file_tree.specs.Locks.{image_kind}
use Rattle.file_tree.specs.Making.{with_name}
use Rattle.file_tree.specs.Paths.{entry_at, last_entry, parent_from}
use Rattle.file_tree.specs.Status.{no_time}
use Rattle.file_tree.specs.declared.state.FileTree.{FileTree}

-- what the image makes belongs to user and group 0
abbrev pub image_node : ℕ → Node
image_node mode = record {
  attributes = record { mode = mode; uid = 0; gid = 0; accessed = no_time; modified = no_time; changed = no_time };
  has_name = true;
}

-- the root alone, inode 2, which is the working directory
unfoldable pub fresh_tree : FileTree
fresh_tree = record {
  nodes = (2, image_node 0x41ed) ∷ [];
  directories = (2, empty_directory 2) ∷ [];
  contents = [];
  own_locks = [];
  foreign_locks = [];
  numbers = record { image = []; next = 0x1000 };
  working = 2;
}

-- the steps of a path of the image, which begins at the root, to its last name, and that name
unfoldable pub image_parent : FileTree → List ℕ → Result (ℕ × List ℕ) Errno
image_parent s path = do
  refused_if (length path == 0) NoEntry
  parent_from s 2 path

-- the inode of a path of the image
unfoldable pub image_inode : FileTree → List ℕ → Result ℕ Errno
image_inode s path = do
  l ← image_parent s path
  n ← last_entry s l path
  ok_or n NoEntry

-- a line of the image makes an inode and its name, before what the inode is
abbrev pub with_image_name : FileTree → ℕ × List ℕ → ℕ → FileTree
with_image_name s l inode =
    let e : FileTree = with_name s no_time l inode in
    record e { numbers = record s.numbers { image = put s.numbers.image inode tt } }

-- a directory of mode 0755
unfoldable pub with_image_directory : FileTree → ℕ × List ℕ → ℕ → FileTree
with_image_directory s l inode =
    let e : FileTree = with_image_name s l inode in
    record e {
      directories = put e.directories inode (empty_directory l.0);
      nodes = put e.nodes inode (image_node 0x41ed);
    }

-- a file of mode 0644 with zeros
unfoldable pub with_image_file : FileTree → ℕ × List ℕ → ℕ → ℕ → FileTree
with_image_file s l inode size =
    let e : FileTree = with_image_name s l inode in
    record e {
      contents = put e.contents inode (replicate size 0);
      nodes = put e.nodes inode (image_node 0x81a4);
    }

-- the image has a directory at a path
abbrev pub image_directory : FileTree → List ℕ → ℕ → Result ⊤ Errno × FileTree
image_directory s path inode = settled s (do
  l ← image_parent s path
  Ok (tt, with_image_directory s l inode))

-- the image has a file at a path, of so many zeros
abbrev pub image_file : FileTree → List ℕ → ℕ → ℕ → Result ⊤ Errno × FileTree
image_file s path inode size = settled s (do
  refused_if (nat_lt most_file_bytes size) FileTooLarge
  l ← image_parent s path
  Ok (tt, with_image_file s l inode size))

-- a file of the image has other bytes from a place on; its times stay
abbrev pub image_bytes : FileTree → List ℕ → ℕ → List ℕ → Result ⊤ Errno × FileTree
image_bytes s path offset bytes = settled s (do
  refused_if (nat_lt most_file_bytes (offset + length bytes)) FileTooLarge
  i ← image_inode s path
  Ok (tt, with_bytes s i offset bytes))

-- the image has a lock of another process on a file; EOVERFLOW where it reaches past 2^63 - 1
abbrev pub image_lock : FileTree → List ℕ → Bool → ℕ → ℕ → ℕ → Result ⊤ Errno × FileTree
image_lock s path write start count pid = settled s (do
  i ← image_inode s path
  f ← foreign_lock i (image_kind write) start count pid
  Ok (tt, record s { foreign_locks = s.foreign_locks ++ f ∷ [] }))

-- what the last name of a path means, if it is there
unfoldable pub image_entry : FileTree → List ℕ → Result (Option ℕ) Errno
image_entry s path = do
  l ← image_parent s path
  entry_at s l

-- a name that could be made: the steps to it succeed, its place is a directory, and it isn't there
abbrev pub is_missing : Result (Option ℕ) Errno → Bool
is_missing (Ok None) = true
is_missing (Ok (Some i)) = false
is_missing (Err e) = false

-- neither the root nor named by a line of the image
abbrev pub is_free_inode : FileTree → ℕ → Bool
is_free_inode s inode = not (inode == 2) && not (is_some (at s.numbers.image inode))

-- a line of the image may make this inode at this path
unfoldable pub is_free_name : FileTree → List ℕ → ℕ → Bool
is_free_name s path inode = is_free_inode s inode && is_missing (image_entry s path)

-- an inode is a file with so many bytes
abbrev pub file_reaches : FileTree → Result ℕ Errno → ℕ → Bool
file_reaches s (Err e) end = false
file_reaches s (Ok i) end = reaches (at s.contents i) end

-- a path means a file whose bytes reach so far
unfoldable pub has_bytes : FileTree → List ℕ → ℕ → ℕ → Bool
has_bytes s path offset count = file_reaches s (image_inode s path) (offset + count)
