-- Bytes that were written, read back.
use Rattle.std.specs.Prelude.{◌≡◌, ◌≤◌, ℕ, ℤ, true, false, is_some, List, length, take, Ok}
use Rattle.kernel_values.specs.OpenFlags.{appends, can_read}
use Rattle.kernel_values.specs.declared.identity.Credentials.{Credentials}
use Rattle.kernel_values.specs.declared.times.TimeSpec.{TimeSpec}
use Rattle.number_maps.specs.NumberMap.{at}
use Rattle.open_files.specs.Descriptors.{open_file}
use Rattle.open_files.specs.declared.state.OpenFile.{OpenFile}
use Rattle.open_files.specs.declared.state.Place.TheVariants.{At}
use Rattle.file_store.specs.Transfers.{read, write}
use Rattle.file_store.specs.declared.state.Files.{Files}

-- a descriptor has a file open that is there, for reading and without O_APPEND
pub record ReadsInPlace (s : Files) (fd : ℤ) (f : ℕ × OpenFile) : Type 0 where
  pub named : open_file s.open_files fd ≡ Ok f
  pub reads : can_read f.1.flags ≡ true
  pub in_place : appends f.1.flags ≡ false
  pub there : is_some (at s.tree.contents f.1.inode) ≡ true

-- Where a write at an offset answers n, it took n bytes of those given. A read of n bytes at that offset, with room for them, then
-- gives exactly these.
abbrev pub WrittenBytesReadBack : Type 0
WrittenBytesReadBack =
    (s : Files) (now : TimeSpec) (own : Credentials) (fd : ℤ) (f : ℕ × OpenFile) (offset : ℤ) (wanted n room : ℕ) (bytes : List ℕ)
    → ReadsInPlace s fd f
    → (write s now own fd wanted bytes (At offset)).0 ≡ Ok n
    → n ≤ room
    → (n ≤ length bytes) × ((read (write s now own fd wanted bytes (At offset)).1 fd n room (At offset)).0 ≡ Ok (take n bytes))
