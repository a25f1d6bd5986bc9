-- The laws: what keeps the open files sound, and what follows where they are. No socket was made in a sound state.
use Rattle.std.specs.Prelude.{◌≡◌, ◌≤◌, ◌<◌, ◌^◌, ◌+◌, ◌||◌, ℕ, ℤ, Bool, true, false, List, Some, None, is_ok, Ok}
use Rattle.kernel_values.specs.declared.open_flags.OpenFlags.{OpenFlags}
use Rattle.number_maps.specs.NumberMap.{at}
use Rattle.open_files.specs.Descriptors.{counted, descriptor_of, installed, nothing_open, open_file, with_descriptor, with_open_file, without_descriptor, without_open_file}
use Rattle.open_files.specs.Flags.{set_fd_flags, set_open_flags}
use Rattle.open_files.specs.Holding.{has_reader, has_writer, is_held, is_open}
use Rattle.open_files.specs.Kinds.{is_of_pipe}
use Rattle.open_files.specs.Made.{HasRoom}
use Rattle.open_files.specs.Numbers.{duplicate, free_pair, from_least}
use Rattle.open_files.specs.Piping.{drained, pipe_numbers, with_pipe}
use Rattle.open_files.specs.Transfers.{read_pipe, with_bytes_taken, write_pipe}
use Rattle.open_files.specs.declared.state.Descriptor.{Descriptor}
use Rattle.open_files.specs.declared.state.OpenFile.{OpenFile}
use Rattle.open_files.specs.declared.state.OpenFiles.{OpenFiles}
use Rattle.open_files.specs.declared.state.Place.{Place}
use Rattle.open_laws.specs.Sound.{IsSound, is_there, most_position}

-- ---- what is made
abbrev pub NothingOpenIsSound : Type 0
NothingOpenIsSound = IsSound nothing_open

-- things are counted, where so many may be made
abbrev pub CountedIsSound : Type 0
CountedIsSound = (s : OpenFiles) (things : ℕ) → IsSound s → HasRoom s.made things → IsSound (counted s things)

-- An open file may stand at a number: the number is free and has 32 bits, a thing may be made, the inode is a pipe where the open file
-- is an end of one and only there, and the position is in range.
pub record MayOpen (s : OpenFiles) (n : ℕ) (file : OpenFile) : Type 0 where
  pub free : at s.descriptors n ≡ None
  pub word : n < 2 ^ 32
  pub room : HasRoom s.made 1
  pub ends : is_there s.pipes file.inode ≡ is_of_pipe file.kind
  pub position : file.position ≤ most_position file.kind

abbrev pub InstalledIsSound : Type 0
InstalledIsSound = (s : OpenFiles) (n : ℕ) (file : OpenFile) (cloexec : Bool) → IsSound s → MayOpen s n file → IsSound (installed s n file cloexec)

-- a pipe is made at the numbers that it would get, of an inode that no open file has
abbrev pub MadePipeIsSound : Type 0
MadePipeIsSound =
    (s : OpenFiles) (limit flags : ℕ) (n : ℕ × ℕ) (inode : ℕ)
    → IsSound s
    → limit ≤ 2 ^ 32
    → pipe_numbers s limit flags ≡ Ok n
    → is_open s.files inode ≡ false
    → IsSound (with_pipe s flags n inode)

-- ---- descriptors
-- A descriptor of an open file that is there may stand at a number of 32 bits, where none stood or one of the same open file.
pub record MayName (s : OpenFiles) (n : ℕ) (d : Descriptor) : Type 0 where
  pub word : n < 2 ^ 32
  pub there : is_there s.files d.serial ≡ true
  pub same : (old : Descriptor) → at s.descriptors n ≡ Some old → old.serial ≡ d.serial

abbrev pub NamedIsSound : Type 0
NamedIsSound = (s : OpenFiles) (n : ℕ) (d : Descriptor) → IsSound s → MayName s n d → IsSound (with_descriptor s n d)

-- F_DUPFD, F_DUPFD_CLOEXEC and dup
abbrev pub DuplicateIsSound : Type 0
DuplicateIsSound = (s : OpenFiles) (limit : ℕ) (fd least : ℤ) (cloexec : Bool) → IsSound s → limit ≤ 2 ^ 32 → IsSound (duplicate s limit fd least cloexec).1

-- F_SETFD
abbrev pub SetFdFlagsIsSound : Type 0
SetFdFlagsIsSound = (s : OpenFiles) (fd : ℤ) (word : ℕ) → IsSound s → IsSound (set_fd_flags s fd word).1

-- ---- open files
-- an open file changes in its flags and its position alone, which stays in range
pub record MayChange (s : OpenFiles) (serial : ℕ) (f g : OpenFile) : Type 0 where
  pub there : at s.files serial ≡ Some f
  pub inode : g.inode ≡ f.inode
  pub kind : g.kind ≡ f.kind
  pub position : g.position ≤ most_position g.kind

abbrev pub ChangedIsSound : Type 0
ChangedIsSound = (s : OpenFiles) (serial : ℕ) (f g : OpenFile) → IsSound s → MayChange s serial f g → IsSound (with_open_file s serial g)

-- F_SETFL
abbrev pub SetOpenFlagsIsSound : Type 0
SetOpenFlagsIsSound = (s : OpenFiles) (fd : ℤ) (given : OpenFlags) → IsSound s → IsSound (set_open_flags s fd given).1

-- ---- transfers of pipes
abbrev pub ReadPipeIsSound : Type 0
ReadPipeIsSound =
    (s after : OpenFiles) (inode wanted room : ℕ) (place : Place) (bytes : List ℕ)
    → IsSound s
    → read_pipe s inode wanted room place ≡ Ok (bytes, after)
    → IsSound after

abbrev pub WritePipeIsSound : Type 0
WritePipeIsSound =
    (s after : OpenFiles) (inode wanted n : ℕ) (piece : List ℕ) (place : Place)
    → IsSound s
    → write_pipe s inode wanted piece place ≡ Ok (n, after)
    → IsSound after

-- bytes that were read wait no more
abbrev pub TakenIsSound : Type 0
TakenIsSound = (s : OpenFiles) (inode count : ℕ) → IsSound s → IsSound (with_bytes_taken s inode count)

-- ---- what ends
-- a descriptor goes whose open file something else holds
abbrev pub UnnamedIsSound : Type 0
UnnamedIsSound =
    (s : OpenFiles) (n : ℕ) (d : Descriptor)
    → IsSound s
    → at s.descriptors n ≡ Some d
    → is_held (without_descriptor s n) d.serial ≡ true
    → IsSound (without_descriptor s n)

-- a descriptor is the last that holds an open file
pub record IsLast (s : OpenFiles) (n : ℕ) (d : Descriptor) (f : OpenFile) : Type 0 where
  pub named : at s.descriptors n ≡ Some d
  pub there : at s.files d.serial ≡ Some f
  pub last : is_held (without_descriptor s n) d.serial ≡ false

-- the last descriptor of an open file goes, and the open file with it
abbrev pub gone : OpenFiles → ℕ → ℕ → OpenFiles
gone s n serial = without_open_file (without_descriptor s n) serial

abbrev pub GoneIsSound : Type 0
GoneIsSound =
    (s : OpenFiles) (n : ℕ) (d : Descriptor) (f : OpenFile)
    → IsSound s
    → IsLast s n d f
    → is_of_pipe f.kind ≡ false
    → IsSound (gone s n d.serial)

-- and the pipe of its inode with it, where there is one and no other open file has it
abbrev pub DrainedIsSound : Type 0
DrainedIsSound =
    (s : OpenFiles) (n : ℕ) (d : Descriptor) (f : OpenFile)
    → IsSound s
    → IsLast s n d f
    → IsSound (drained (gone s n d.serial) f.inode)

-- ---- what follows
-- a descriptor that is open has an open file
abbrev pub DescriptorHasOpenFile : Type 0
DescriptorHasOpenFile = (s : OpenFiles) (fd : ℤ) → IsSound s → is_ok (open_file s fd) ≡ is_ok (descriptor_of s fd)

-- the next serial number is no open file's
abbrev pub NextSerialIsFree : Type 0
NextSerialIsFree = (s : OpenFiles) → IsSound s → at s.files (s.made.last_serial + 1) ≡ None

-- a pipe has an end that is open
abbrev pub PipeHasAnEnd : Type 0
PipeHasAnEnd = (s : OpenFiles) (inode : ℕ) → IsSound s → is_there s.pipes inode ≡ true → (has_reader s.files inode || has_writer s.files inode) ≡ true

-- a number that is given is free, no less than the least, and below the limit
pub record IsNewNumber (s : OpenFiles) (least limit n : ℕ) : Type 0 where
  pub free : at s.descriptors n ≡ None
  pub least_kept : least ≤ n
  pub below : n < limit

abbrev pub CopyHasNewNumber : Type 0
CopyHasNewNumber = (s : OpenFiles) (limit : ℕ) (fd least : ℤ) (cloexec : Bool) (n : ℕ) → (duplicate s limit fd least cloexec).0 ≡ Ok n → IsNewNumber s (from_least least) limit n

-- two numbers that are given are apart
abbrev pub PairHasNewNumbers : Type 0
PairHasNewNumbers = (s : OpenFiles) (limit : ℕ) (n : ℕ × ℕ) → free_pair s limit ≡ Ok n → IsNewNumber s 0 limit n.0 × IsNewNumber s (n.0 + 1) limit n.1
