-- What the tree of files and the open files owe each other in every state in which no socket was made.
use Rattle.std.specs.Prelude.{◌≡◌, ◌<◌, ◌≤◌, ◌||◌, ℕ, true, false, List, Some, None, length}
use Rattle.kernel_values.specs.Bounds.{most_file_bytes}
use Rattle.kernel_values.specs.declared.items.OpenKind.{OpenKind}
use Rattle.kernel_values.specs.declared.items.OpenKind.TheVariants.{File, Directory, PipeRead, PipeWrite, Stream, Datagram, RuleSocket}
use Rattle.number_maps.specs.NumberMap.{IsAscending, at}
use Rattle.file_tables.specs.Entries.{named}
use Rattle.file_tables.specs.declared.state.Directory as directory
use Rattle.file_tables.specs.declared.state.Entry.{Entry}
use Rattle.file_tables.specs.declared.state.Node.{Node}
use Rattle.file_tree.specs.Making.{next_inode}
use Rattle.file_tree.specs.declared.state.FileTree.{FileTree}
use Rattle.open_files.specs.Holding.{is_open}
use Rattle.open_files.specs.declared.state.OpenFile.{OpenFile}
use Rattle.open_laws.specs.Sound as opened
use Rattle.open_laws.specs.Sound.{is_there}
use Rattle.file_store.specs.declared.state.Files.{Files}

-- an inode is a file
pub record IsFile (t : FileTree) (i : ℕ) : Type 0 where
  pub node : is_there t.nodes i ≡ true
  pub bytes : is_there t.contents i ≡ true

-- an inode is a directory
pub record IsDirectory (t : FileTree) (i : ℕ) : Type 0 where
  pub node : is_there t.nodes i ≡ true
  pub names : is_there t.directories i ≡ true

-- an inode number was given, and to no file or directory: it is none that the image names, and has no node
pub record IsApart (t : FileTree) (i : ℕ) : Type 0 where
  pub least : 0x1000 ≤ i
  pub given : i < t.numbers.next
  pub image : at t.numbers.image i ≡ None
  pub nodeless : is_there t.nodes i ≡ false

-- what the inode of an open file is in the tree; none is a socket, where no socket was made
abbrev pub HasInode : FileTree → ℕ → OpenKind → Type 0
HasInode t i File = IsFile t i
HasInode t i Directory = IsDirectory t i
HasInode t i PipeRead = IsApart t i
HasInode t i PipeWrite = IsApart t i
HasInode t i Stream = ⊥
HasInode t i Datagram = ⊥
HasInode t i RuleSocket = ⊥

-- The inode of each open file is what its kind needs. What has no name any more is there only while an open file has it.
pub record Belongs (t : FileTree) (files : List (ℕ × OpenFile)) : Type 0 where
  pub held : (serial : ℕ) (f : OpenFile) → at files serial ≡ Some f → HasInode t f.inode f.kind
  pub nameless : (i : ℕ) (n : Node) → at t.nodes i ≡ Some n → n.has_name ≡ false → is_open files i ≡ true

-- the open files are sound, and belong to the tree
pub record IsSound (s : Files) : Type 0 where
  pub open_files : opened.IsSound s.open_files
  pub belong : Belongs s.tree s.open_files.files

-- the next inode number is one that was never given, that the image doesn't name and that has no node
pub record IsFresh (t : FileTree) (i : ℕ) : Type 0 where
  pub least : 0x1000 ≤ i
  pub above : t.numbers.next ≤ i
  pub image : at t.numbers.image i ≡ None
  pub nodeless : is_there t.nodes i ≡ false

-- no file is longer than one may be
abbrev pub HasSizes : FileTree → Type 0
HasSizes t = (i : ℕ) (bytes : List ℕ) → at t.contents i ≡ Some bytes → length bytes ≤ most_file_bytes

-- What the laws ask of the tree alone: a node is of a directory or of a file with bytes, what a name means has a node, a directory lies in a
-- directory, the root and the working directory are directories, and the next inode number is fresh.
pub record IsWhole (t : FileTree) : Type 0 where
  pub ascend : IsAscending t.nodes
  pub kinds : (i : ℕ) → is_there t.nodes i ≡ (is_there t.directories i || is_there t.contents i)
  pub meant : (place : ℕ) (d : directory.Directory) (name : List ℕ) (e : ℕ × Entry) → at t.directories place ≡ Some d → named d.names name ≡ Some e → is_there t.nodes e.1.child ≡ true
  pub parents : (place : ℕ) (d : directory.Directory) → at t.directories place ≡ Some d → is_there t.directories d.parent ≡ true
  pub root : is_there t.directories 2 ≡ true
  pub working : is_there t.directories t.working ≡ true
  pub fresh : IsFresh t (next_inode t)
