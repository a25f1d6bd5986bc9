-- The bytes of a file sent to what another descriptor has open, as sendfile(2) does.
use Rattle.std.specs.Prelude.{ℕ, ℤ, pos, negsuc, ◌+◌, ◌-◌, ◌≤◌, ◌||◌, max, not, nat_le, length, take, drop, Bool, List, Option, Some, None, Result, Ok, Err, if◌then◌else◌}
use Rattle.kernel_values.specs.Bounds.{most_file_bytes, most_narrow}
use Rattle.kernel_values.specs.Outcome.{◌>>=◌, ◌>>◌, refused_if}
use Rattle.kernel_values.specs.OpenFlags.{appends, can_read, can_write}
use Rattle.kernel_values.specs.declared.errno.Errno.{Errno}
use Rattle.kernel_values.specs.declared.errno.Errno.TheVariants.{BadDescriptor, InvalidArgument, Overflow}
use Rattle.kernel_values.specs.declared.identity.Credentials.{Credentials}
use Rattle.kernel_values.specs.declared.times.TimeSpec.{TimeSpec}
use Rattle.number_maps.specs.NumberMap.{at}
use Rattle.file_tree.specs.Lengths.{bytes_of}
use Rattle.open_files.specs.Descriptors.{open_file, with_position}
use Rattle.open_files.specs.Kinds.{is_of_directory, is_of_file}
use Rattle.open_files.specs.Transfers.{place_of}
use Rattle.open_files.specs.declared.state.OpenFile.{OpenFile}
use Rattle.open_files.specs.declared.state.Place.{Place}
use Rattle.open_files.specs.declared.state.Place.TheVariants.{Current, At}
use Rattle.file_store.specs.Transfers.{bytes_left, write}
use Rattle.file_store.specs.declared.state.Files.{Files}

-- an offset of 32 bits: no byte is asked for from 2^31 - 1 on, and EOVERFLOW where the first one would be there
abbrev pub narrow_count : ℕ → ℕ → Result ℕ Errno
narrow_count start count = if nat_le (start + count) most_narrow then Ok count else do
  refused_if (nat_le most_narrow start) Overflow
  Ok (most_narrow - start)

-- only an offset has a width
abbrev pub send_count : Place → Bool → ℕ → ℕ → Result ℕ Errno
send_count Current narrow start count = Ok count
send_count (At n) narrow start count = if narrow then narrow_count start count else Ok count

-- Which open file is read, from where in it, and how many bytes of it. The target is looked at first.
unfoldable pub send_source : Files → ℤ → ℤ → Place → ℕ → Bool → Result ((ℕ × OpenFile) × (ℕ × ℕ)) Errno
send_source s target source place count narrow = do
  t ← open_file s.open_files target
  refused_if (not (can_write t.1.flags)) BadDescriptor
  f ← open_file s.open_files source
  refused_if (not (can_read f.1.flags)) BadDescriptor
  start ← place_of f.1 place
  refused_if (not (is_of_file f.1.kind)) InvalidArgument
  refused_if (is_of_directory t.1.kind || appends t.1.flags) InvalidArgument
  n ← send_count place narrow start count
  Ok (f, (start, bytes_left s f.1 start n))

-- so many bytes of a file from a place on
abbrev pub bytes_from : Files → ℕ → ℕ → ℕ → List ℕ
bytes_from s inode start count = take count (drop start (bytes_of s.tree inode))

-- an open file that is there has another position
abbrev pub positioned_as : Files → ℕ → ℕ → Option OpenFile → Files
positioned_as s serial p None = s
positioned_as s serial p (Some f) = record s { open_files = with_position s.open_files serial f p }

-- a transfer from the position of its source moves it
abbrev pub source_moved : Files → ℕ → Place → ℕ → Files
source_moved s serial Current p = positioned_as s serial p (at s.open_files.files serial)
source_moved s serial (At n) p = s

-- the source is moved behind the write: so an open file that is both source and target moves once
abbrev pub sent : ℕ → Place → ℕ → Result ℕ Errno × Files → Result ℕ Errno × Files
sent serial place start (Ok n, s) = (Ok n, source_moved s serial place (start + n))
sent serial place start (Err e, s) = (Err e, s)

abbrev pub send_from : Files → TimeSpec → Credentials → ℤ → Place → Result ((ℕ × OpenFile) × (ℕ × ℕ)) Errno → Result ℕ Errno × Files
send_from s now own target place (Err e) = (Err e, s)
send_from s now own target place (Ok x) = let bytes = bytes_from s x.0.1.inode x.1.0 x.1.1 in
    sent x.0.0 place x.1.0 (write s now own target (length bytes) bytes Current)

-- sendfile and sendfile64: what the source gives is written as by write, also where it gives no byte
abbrev pub send_file : Files → TimeSpec → Credentials → ℤ → ℤ → Place → ℕ → Bool → Result ℕ Errno × Files
send_file s now own target source place count narrow = send_from s now own target place (send_source s target source place count narrow)

-- so many bytes from an offset on end within the file, where there are any
abbrev pub EndsInFile : Place → ℕ → Type 0
EndsInFile Current n = Unit {0}
EndsInFile (At (pos start)) n = start + n ≤ max start most_file_bytes
EndsInFile (At (negsuc m)) n = Unit {0}
