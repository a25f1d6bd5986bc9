-- Copies of descriptors.
use Rattle.std.specs.Prelude.{◌≡◌, ◌≢◌, ◌≤◌, ◌^◌, ℕ, ℤ, pos, Bool, Ok, Err}
use Rattle.kernel_values.specs.declared.errno.Errno.TheVariants.{BadDescriptor}
use Rattle.open_files.specs.Descriptors.{descriptor_of, open_file}
use Rattle.open_files.specs.Numbers.{duplicate}
use Rattle.open_files.specs.declared.state.OpenFiles.{OpenFiles}
use Rattle.file_store.specs.Descriptors.{close}
use Rattle.file_store.specs.declared.state.Files.{Files}

-- a descriptor is as it was, and so is its open file
pub record Stays (before after : OpenFiles) (fd : ℤ) : Type 0 where
  pub descriptor : descriptor_of after fd ≡ descriptor_of before fd
  pub opened : open_file after fd ≡ open_file before fd

-- all descriptors but one are as they were, and so are their open files
abbrev pub OthersStay : OpenFiles → OpenFiles → ℕ → Type 0
OthersStay before after n = (other : ℤ) → other ≢ pos n → Stays before after other

-- Where a copy of a descriptor is answered by a number, nothing was open at that number. It names the open file of the old
-- descriptor, and the others stay. Below the limit each number has 32 bits.
abbrev pub CopyNamesTheSame : Type 0
CopyNamesTheSame =
    (s : OpenFiles) (limit : ℕ) (fd least : ℤ) (cloexec : Bool) (n : ℕ)
    → limit ≤ 2 ^ 32
    → (duplicate s limit fd least cloexec).0 ≡ Ok n
    → (open_file s (pos n) ≡ Err BadDescriptor)
    × (open_file (duplicate s limit fd least cloexec).1 (pos n) ≡ open_file s fd)
    × OthersStay s (duplicate s limit fd least cloexec).1 n

-- the state after a descriptor was copied
abbrev pub copied : Files → ℕ → ℤ → ℤ → Bool → Files
copied s limit fd least cloexec = record s { open_files = (duplicate s.open_files limit fd least cloexec).1 }

-- but for one descriptor all are as they were, with their open files, the bytes of files and those that wait in pipes
pub record LeavesTheOthers (before after : Files) (n : ℕ) : Type 0 where
  pub others : OthersStay before.open_files after.open_files n
  pub bytes : after.tree.contents ≡ before.tree.contents
  pub waiting : after.open_files.pipes ≡ before.open_files.pipes
  pub sockets : after.open_files.sockets ≡ before.open_files.sockets

-- A copy that is closed leaves all other descriptors as they were before the copy was made.
abbrev pub ClosedCopyLeavesTheOthers : Type 0
ClosedCopyLeavesTheOthers =
    (s : Files) (limit : ℕ) (fd least : ℤ) (cloexec : Bool) (n : ℕ)
    → limit ≤ 2 ^ 32
    → (duplicate s.open_files limit fd least cloexec).0 ≡ Ok n
    → ((close (copied s limit fd least cloexec) (pos n)).0 ≡ Ok tt)
    × LeavesTheOthers s (close (copied s limit fd least cloexec) (pos n)).1 n
