-- What holds in every state of the open files in which no socket was made.
use Rattle.std.specs.Prelude.{◌≡◌, ◌<◌, ◌≤◌, ◌^◌, ℕ, Bool, true, is_some, List, length, Some}
use Rattle.kernel_values.specs.Bounds.{most_file_bytes, most_narrow}
use Rattle.kernel_values.specs.declared.items.OpenKind.{OpenKind}
use Rattle.kernel_values.specs.declared.items.OpenKind.TheVariants.{File, Directory, PipeRead, PipeWrite, Stream, Datagram, RuleSocket}
use Rattle.number_maps.specs.NumberMap.{IsAscending, at}
use Rattle.socket_tables.specs.Sockets.{no_sockets}
use Rattle.open_files.specs.Holding.{is_held, is_open}
use Rattle.open_files.specs.Kinds.{is_of_pipe}
use Rattle.open_files.specs.Made.{MadeState}
use Rattle.open_files.specs.declared.state.Descriptor.{Descriptor}
use Rattle.open_files.specs.declared.state.OpenFile.{OpenFile}
use Rattle.open_files.specs.declared.state.OpenFiles.{OpenFiles}

-- a map has a value at a number
abbrev pub is_there : {V : Type 0} → List (ℕ × V) → ℕ → Bool
is_there t n = is_some (at t n)

-- The greatest position of an open file: of a file the greatest size of one, of a directory the greatest that lseek can tell. What has
-- no position stays at 0.
abbrev pub most_position : OpenKind → ℕ
most_position File = most_file_bytes
most_position Directory = most_narrow
most_position PipeRead = 0
most_position PipeWrite = 0
most_position Stream = 0
most_position Datagram = 0
most_position RuleSocket = 0

-- each map stands by ascending number
pub record MapsAscend (s : OpenFiles) : Type 0 where
  pub descriptors : IsAscending s.descriptors
  pub files : IsAscending s.files
  pub pipes : IsAscending s.pipes

-- a descriptor's number has 32 bits, and the open file that it names is there
pub record NamesThere (s : OpenFiles) (number : ℕ) (d : Descriptor) : Type 0 where
  pub word : number < 2 ^ 32
  pub there : is_there s.files d.serial ≡ true

-- An open file is held. Its serial number is one of those given, from 1 on. It is an end of a pipe where its inode is a pipe, and only there.
pub record IsSoundFile (s : OpenFiles) (serial : ℕ) (f : OpenFile) : Type 0 where
  pub held : is_held s serial ≡ true
  pub positive : 0 < serial
  pub given : serial ≤ s.made.last_serial
  pub ends : is_there s.pipes f.inode ≡ is_of_pipe f.kind
  pub position : f.position ≤ most_position f.kind

-- a pipe has an open file, and 65,536 bytes at most wait in it
pub record IsSoundPipe (s : OpenFiles) (inode : ℕ) (bytes : List ℕ) : Type 0 where
  pub opened : is_open s.files inode ≡ true
  pub waits : length bytes ≤ 65536

-- each open file that was made is a thing, and less than 2^31 things were made
pub record IsCounted (m : MadeState) : Type 0 where
  pub serials : m.last_serial ≤ m.things
  pub things : m.things < 2 ^ 31

-- the open files are sound, and no socket was made
pub record IsSound (s : OpenFiles) : Type 0 where
  pub ascend : MapsAscend s
  pub descriptors : (number : ℕ) (d : Descriptor) → at s.descriptors number ≡ Some d → NamesThere s number d
  pub files : (serial : ℕ) (f : OpenFile) → at s.files serial ≡ Some f → IsSoundFile s serial f
  pub pipes : (inode : ℕ) (bytes : List ℕ) → at s.pipes inode ≡ Some bytes → IsSoundPipe s inode bytes
  pub made : IsCounted s.made
  -- no socket was made
  pub sockets : s.sockets ≡ no_sockets
