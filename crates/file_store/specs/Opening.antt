-- Opening by a path.
use Rattle.std.specs.Prelude.{ℕ, ℤ, ◌&&◌, ◌||◌, not, nat_lt, List, Option, Some, None, Result, ⊤, Ok, if◌then◌else◌}
use Rattle.kernel_values.specs.Bounds.{most_narrow}
use Rattle.kernel_values.specs.Outcome.{◌>>=◌, ◌>>◌, refused_if, settled}
use Rattle.kernel_values.specs.OpenFlags.{asks_write, closes_on_exec, creates, is_exclusive, is_large, status_flags, truncates, wants_directory}
use Rattle.kernel_values.specs.declared.errno.Errno.{Errno}
use Rattle.kernel_values.specs.declared.errno.Errno.TheVariants.{Exists, InvalidArgument, IsDirectory, NoEntry, NotDirectory, Overflow, TableFull}
use Rattle.kernel_values.specs.declared.items.OpenKind.{OpenKind}
use Rattle.kernel_values.specs.declared.items.OpenKind.TheVariants.{File, Directory}
use Rattle.kernel_values.specs.declared.open_flags.OpenFlags.{OpenFlags}
use Rattle.file_tables.specs.Names.{ends_with_slash}
use Rattle.file_tree.specs.Lengths.{emptied, size_of}
use Rattle.file_tree.specs.Making as making
use Rattle.file_tree.specs.Paths.{is_directory, last_entry}
use Rattle.file_tree.specs.declared.state.Maker.{Maker}
use Rattle.open_files.specs.Descriptors.{counted, installed}
use Rattle.open_files.specs.Made.{is_full}
use Rattle.open_files.specs.Numbers.{free_number}
use Rattle.open_files.specs.declared.state.OpenFile.{OpenFile}
use Rattle.file_store.specs.Paths.{resolve_parent}
use Rattle.file_store.specs.declared.state.Files.{Files}

-- what an inode is
abbrev pub kind_of : Files → ℕ → OpenKind
kind_of s inode = if is_directory s.tree inode then Directory else File

-- whether what is there may be opened so
unfoldable pub admitted : Files → OpenFlags → ℕ → Result ⊤ Errno
admitted s flags inode = do
  refused_if (creates flags && is_exclusive flags) Exists
  refused_if (is_directory s.tree inode && (asks_write flags || creates flags)) IsDirectory
  refused_if (not (is_directory s.tree inode) && wants_directory flags) NotDirectory
  refused_if (not (is_large flags) && nat_lt most_narrow (size_of s.tree inode)) Overflow

-- O_TRUNC takes the bytes of a file away, where write access is asked for; its times stay
abbrev pub truncated : Files → OpenFlags → ℕ → Files
truncated s flags inode = if truncates flags && asks_write flags then record s { tree = emptied s.tree inode } else s

-- an open file at position 0
abbrev pub new_open_file : Files → OpenFlags → ℕ → OpenFile
new_open_file s flags inode = record { inode = inode; kind = kind_of s inode; flags = status_flags flags; position = 0 }

-- an inode is opened at a number
abbrev pub opened : Files → OpenFlags → ℕ → ℕ → Files
opened s flags n inode = record s { open_files = installed s.open_files n (new_open_file s flags inode) (closes_on_exec flags) }

-- a file without bytes and its name: two things are made
abbrev pub with_file : Files → Maker → ℕ × List ℕ → ℕ → Files
with_file s m l mode = record {
  tree = making.with_file s.tree m l mode;
  open_files = counted s.open_files 2;
}

-- what is there is opened at a number
unfoldable pub opened_present : Files → OpenFlags → ℕ → ℕ → Result (ℕ × Files) Errno
opened_present s flags n i = do
  admitted s flags i
  Ok (n, opened (truncated s flags i) flags n i)

-- a file is made in the place of a missing last name, and opened
unfoldable pub opened_missing : Files → Maker → ℕ × List ℕ → List ℕ → OpenFlags → ℕ → ℕ → Result (ℕ × Files) Errno
opened_missing s m l path flags mode n = do
  refused_if (not (creates flags)) NoEntry
  refused_if (ends_with_slash path) IsDirectory
  Ok (n, opened (with_file s m l mode) flags n (making.next_inode s.tree))

-- what the last name means is opened, or a file is made there
abbrev pub opened_at : Files → Maker → ℕ × List ℕ → List ℕ → OpenFlags → ℕ → ℕ → Option ℕ → Result (ℕ × Files) Errno
opened_at s m l path flags mode n None = opened_missing s m l path flags mode n
opened_at s m l path flags mode n (Some i) = opened_present s flags n i

-- open and openat: at the lowest free number
abbrev pub open_path : Files → ℕ → Maker → ℤ → List ℕ → OpenFlags → ℕ → Result ℕ Errno × Files
open_path s limit m from path flags mode = settled s (do
  n ← free_number s.open_files 0 limit
  refused_if (is_full s.open_files.made) TableFull
  refused_if (creates flags && wants_directory flags) InvalidArgument
  l ← resolve_parent s from path
  e ← last_entry s.tree l path
  opened_at s m l path flags mode n e)
