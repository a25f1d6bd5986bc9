-- The laws: each operation keeps what the tree and the open files owe each other, whatever it answers, where no socket was made.
use Rattle.std.specs.Prelude.{◌≡◌, ◌≤◌, ◌^◌, ℕ, ℤ, Bool, List, [], Option}
use Rattle.kernel_values.specs.declared.identity.Credentials.{Credentials}
use Rattle.kernel_values.specs.declared.locks.Lock.{Lock}
use Rattle.kernel_values.specs.declared.open_flags.OpenFlags.{OpenFlags}
use Rattle.kernel_values.specs.declared.status.FileTimes.{FileTimes}
use Rattle.kernel_values.specs.declared.times.TimeSpec.{TimeSpec}
use Rattle.number_maps.specs.NumberMap.{IsAscending}
use Rattle.file_tree.specs.Making.{next_inode}
use Rattle.file_tree.specs.declared.state.Maker.{Maker}
use Rattle.open_files.specs.Flags.{set_fd_flags, set_open_flags}
use Rattle.open_files.specs.Made.{HasRoom}
use Rattle.open_files.specs.Numbers.{duplicate}
use Rattle.open_files.specs.declared.state.Place.{Place}
use Rattle.file_store.specs.Closing.{close_all}
use Rattle.file_store.specs.Descriptors.{close, duplicate_to}
use Rattle.file_store.specs.Image as image
use Rattle.file_store.specs.Image.{fresh_files}
use Rattle.file_store.specs.Lengths.{allocate, truncate, truncate_open}
use Rattle.file_store.specs.Locks.{set_lock}
use Rattle.file_store.specs.NewDirectory.{make_directory}
use Rattle.file_store.specs.Opening.{open_path}
use Rattle.file_store.specs.Piping.{pipe}
use Rattle.file_store.specs.Removing.{remove, remove_directory, unlink}
use Rattle.file_store.specs.Renaming.{rename}
use Rattle.file_store.specs.Retiming.{set_times}
use Rattle.file_store.specs.Seeking.{seek}
use Rattle.file_store.specs.Sending.{send_file}
use Rattle.file_store.specs.State.{on_open_files}
use Rattle.file_store.specs.Transfers.{read, write}
use Rattle.file_store.specs.Working.{change_directory}
use Rattle.file_store.specs.declared.state.Files.{Files}
use Rattle.sound_files.specs.Sound.{HasSizes, IsFresh, IsSound, IsWhole}

-- ---- descriptors
abbrev pub CloseIsSound : Type 0
CloseIsSound = (s : Files) (fd : ℤ) → IsSound s → IsAscending s.tree.nodes → IsSound (close s fd).1

abbrev pub CloseAllIsSound : Type 0
CloseAllIsSound = (s : Files) → IsSound s → IsAscending s.tree.nodes → IsSound (close_all s)

-- dup2 and dup3
abbrev pub DuplicateToIsSound : Type 0
DuplicateToIsSound =
    (s : Files) (limit : ℕ) (fd new : ℤ) (flags : ℕ) (three : Bool)
    → IsSound s
    → IsAscending s.tree.nodes
    → limit ≤ 2 ^ 32
    → IsSound (duplicate_to s limit fd new flags three).1

-- F_DUPFD, F_DUPFD_CLOEXEC and dup
abbrev pub CopyIsSound : Type 0
CopyIsSound =
    (s : Files) (limit : ℕ) (fd least : ℤ) (cloexec : Bool)
    → IsSound s
    → limit ≤ 2 ^ 32
    → IsSound (on_open_files s (duplicate s.open_files limit fd least cloexec)).1

-- F_SETFD
abbrev pub SetFdFlagsIsSound : Type 0
SetFdFlagsIsSound = (s : Files) (fd : ℤ) (word : ℕ) → IsSound s → IsSound (on_open_files s (set_fd_flags s.open_files fd word)).1

-- F_SETFL
abbrev pub SetOpenFlagsIsSound : Type 0
SetOpenFlagsIsSound = (s : Files) (fd : ℤ) (given : OpenFlags) → IsSound s → IsSound (on_open_files s (set_open_flags s.open_files fd given)).1

-- ---- transfers
abbrev pub SeekIsSound : Type 0
SeekIsSound = (s : Files) (fd offset : ℤ) (whence : ℕ) → IsSound s → IsSound (seek s fd offset whence).1

abbrev pub ReadIsSound : Type 0
ReadIsSound = (s : Files) (fd : ℤ) (wanted room : ℕ) (place : Place) → IsSound s → HasSizes s.tree → IsSound (read s fd wanted room place).1

abbrev pub WriteIsSound : Type 0
WriteIsSound = (s : Files) (now : TimeSpec) (own : Credentials) (fd : ℤ) (wanted : ℕ) (piece : List ℕ) (place : Place) → IsSound s → IsSound (write s now own fd wanted piece place).1

abbrev pub SendFileIsSound : Type 0
SendFileIsSound =
    (s : Files) (now : TimeSpec) (own : Credentials) (target source : ℤ) (place : Place) (count : ℕ) (narrow : Bool)
    → IsSound s
    → HasSizes s.tree
    → IsSound (send_file s now own target source place count narrow).1

abbrev pub TruncateIsSound : Type 0
TruncateIsSound = (s : Files) (now : TimeSpec) (path : List ℕ) (wanted : ℤ) → IsSound s → IsSound (truncate s now path wanted).1

abbrev pub TruncateOpenIsSound : Type 0
TruncateOpenIsSound = (s : Files) (now : TimeSpec) (fd wanted : ℤ) → IsSound s → IsSound (truncate_open s now fd wanted).1

abbrev pub AllocateIsSound : Type 0
AllocateIsSound = (s : Files) (fd mode offset count : ℤ) → IsSound s → IsSound (allocate s fd mode offset count).1

-- ---- times, locks and the working directory
abbrev pub SetTimesIsSound : Type 0
SetTimesIsSound = (s : Files) (now : TimeSpec) (from : ℤ) (path : Option (List ℕ)) (times : Option FileTimes) (flags : ℤ) → IsSound s → IsSound (set_times s now from path times flags).1

abbrev pub SetLockIsSound : Type 0
SetLockIsSound = (s : Files) (fd : ℤ) (l : Lock) → IsSound s → IsSound (set_lock s fd l).1

abbrev pub ChangeDirectoryIsSound : Type 0
ChangeDirectoryIsSound = (s : Files) (from : ℤ) (path : List ℕ) → IsSound s → IsSound (change_directory s from path).1

-- ---- what is made
abbrev pub FreshFilesAreSound : Type 0
FreshFilesAreSound = IsSound fresh_files

-- what the laws ask of the tree holds at first
abbrev pub FreshTreeIsWhole : Type 0
FreshTreeIsWhole = IsWhole fresh_files.tree

abbrev pub PipeIsSound : Type 0
PipeIsSound = (s : Files) (limit flags : ℕ) → IsSound s → IsFresh s.tree (next_inode s.tree) → limit ≤ 2 ^ 32 → IsSound (pipe s limit flags).1

abbrev pub OpenIsSound : Type 0
OpenIsSound =
    (s : Files) (limit : ℕ) (m : Maker) (from : ℤ) (path : List ℕ) (flags : OpenFlags) (mode : ℕ)
    → IsSound s
    → IsWhole s.tree
    → limit ≤ 2 ^ 32
    → IsSound (open_path s limit m from path flags mode).1

abbrev pub MakeDirectoryIsSound : Type 0
MakeDirectoryIsSound =
    (s : Files) (m : Maker) (from : ℤ) (path : List ℕ) (mode : ℕ)
    → IsSound s
    → IsFresh s.tree (next_inode s.tree)
    → IsSound (make_directory s m from path mode).1

-- ---- names that go and move
abbrev pub UnlinkIsSound : Type 0
UnlinkIsSound = (s : Files) (now : TimeSpec) (from : ℤ) (path : List ℕ) → IsSound s → IsAscending s.tree.nodes → IsSound (unlink s now from path).1

abbrev pub RemoveDirectoryIsSound : Type 0
RemoveDirectoryIsSound = (s : Files) (now : TimeSpec) (from : ℤ) (path : List ℕ) → IsSound s → IsAscending s.tree.nodes → IsSound (remove_directory s now from path).1

-- unlinkat
abbrev pub RemoveIsSound : Type 0
RemoveIsSound = (s : Files) (now : TimeSpec) (from : ℤ) (path : List ℕ) (flags : ℤ) → IsSound s → IsAscending s.tree.nodes → IsSound (remove s now from path flags).1

abbrev pub RenameIsSound : Type 0
RenameIsSound = (s : Files) (now : TimeSpec) (old new : List ℕ) → IsSound s → IsAscending s.tree.nodes → IsSound (rename s now old new).1

-- ---- the image, before anything is open
abbrev pub ImageDirectoryIsSound : Type 0
ImageDirectoryIsSound =
    (s : Files) (path : List ℕ) (inode : ℕ)
    → IsSound s
    → s.open_files.files ≡ []
    → HasRoom s.open_files.made 2
    → IsSound (image.image_directory s path inode).1

abbrev pub ImageFileIsSound : Type 0
ImageFileIsSound =
    (s : Files) (path : List ℕ) (inode size : ℕ)
    → IsSound s
    → s.open_files.files ≡ []
    → HasRoom s.open_files.made 2
    → IsSound (image.image_file s path inode size).1

abbrev pub ImageBytesIsSound : Type 0
ImageBytesIsSound = (s : Files) (path : List ℕ) (offset : ℕ) (bytes : List ℕ) → IsSound s → IsSound (image.image_bytes s path offset bytes).1

abbrev pub ImageLockIsSound : Type 0
ImageLockIsSound = (s : Files) (path : List ℕ) (write : Bool) (start count pid : ℕ) → IsSound s → IsSound (image.image_lock s path write start count pid).1
