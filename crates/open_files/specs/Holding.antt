-- Which inodes open files hold, and what holds an open file.
use Rattle.std.specs.Prelude.{ℕ, ◌==◌, ◌&&◌, ◌||◌, Bool, List}
use Rattle.std.specs.List.{list_any}
use Rattle.std.specs.Map.{values_of}
use Rattle.socket_tables.specs.Sockets as sockets
use Rattle.open_files.specs.Kinds.{is_reader, is_writer}
use Rattle.open_files.specs.declared.state.Descriptor.{Descriptor}
use Rattle.open_files.specs.declared.state.OpenFile.{OpenFile}
use Rattle.open_files.specs.declared.state.OpenFiles.{OpenFiles}

-- some open file has the inode
unfoldable pub is_open : List (ℕ × OpenFile) → ℕ → Bool
is_open files inode = list_any (λ (f : OpenFile). f.inode == inode) (values_of files)

-- some open file is the end of a pipe that is read from
unfoldable pub has_reader : List (ℕ × OpenFile) → ℕ → Bool
has_reader files inode = list_any (λ (f : OpenFile). (f.inode == inode) && is_reader f.kind) (values_of files)

-- some open file is the end of a pipe that is written to
unfoldable pub has_writer : List (ℕ × OpenFile) → ℕ → Bool
has_writer files inode = list_any (λ (f : OpenFile). (f.inode == inode) && is_writer f.kind) (values_of files)

-- some descriptor names the open file
unfoldable pub names : List (ℕ × Descriptor) → ℕ → Bool
names descriptors serial = list_any (λ (d : Descriptor). d.serial == serial) (values_of descriptors)

-- An open file lasts while something holds it: a descriptor that names it, a message that waits and carries it, or a listening socket in
-- which it waits to be accepted.
unfoldable pub is_held : OpenFiles → ℕ → Bool
is_held s serial = names s.descriptors serial || sockets.is_held s.sockets.entries serial
