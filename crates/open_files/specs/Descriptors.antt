-- Descriptors, and the open files that they name.
use Rattle.std.specs.Prelude.{ℕ, ℤ, pos, negsuc, ◌+◌, ◌^◌, nat_lt, Bool, [], ok_or, Result, Ok, Err, if◌then◌else◌}
use Rattle.kernel_values.specs.Outcome.{◌>>=◌}
use Rattle.kernel_values.specs.declared.errno.Errno.{Errno}
use Rattle.kernel_values.specs.declared.errno.Errno.TheVariants.{BadDescriptor}
use Rattle.number_maps.specs.NumberMap.{at, put, removed}
use Rattle.socket_tables.specs.Sockets as sockets
use Rattle.socket_tables.specs.Sockets.{no_sockets}
use Rattle.open_files.specs.Made.{more_made, one_opened}
use Rattle.open_files.specs.declared.state.Descriptor.{Descriptor}
use Rattle.open_files.specs.declared.state.OpenFile.{OpenFile}
use Rattle.open_files.specs.declared.state.OpenFiles.{OpenFiles}

-- nothing is open, and nothing was made
abbrev pub nothing_open : OpenFiles
nothing_open = record { descriptors = []; files = []; pipes = []; sockets = no_sockets; made = record { things = 0; last_serial = 0 } }

-- no descriptor is below 0, and none above 2^32 - 1
unfoldable pub number_of : ℤ → Result ℕ Errno
number_of (pos n) = if nat_lt n (2 ^ 32) then Ok n else Err BadDescriptor
number_of (negsuc n) = Err BadDescriptor

-- the number and the descriptor
unfoldable pub descriptor_of : OpenFiles → ℤ → Result (ℕ × Descriptor) Errno
descriptor_of s fd = do
  n ← number_of fd
  d ← ok_or (at s.descriptors n) BadDescriptor
  Ok (n, d)

-- the serial number and the open file of a descriptor
unfoldable pub open_file : OpenFiles → ℤ → Result (ℕ × OpenFile) Errno
open_file s fd = do
  d ← descriptor_of s fd
  f ← ok_or (at s.files d.1.serial) BadDescriptor
  Ok (d.1.serial, f)

-- the position of an open file, from which a listing goes on
unfoldable pub position : OpenFiles → ℤ → Result ℕ Errno
position s fd = do
  f ← open_file s fd
  Ok f.1.position

-- an open file changed
abbrev pub with_open_file : OpenFiles → ℕ → OpenFile → OpenFiles
with_open_file s serial f = record s { files = put s.files serial f }

-- an open file has another position
abbrev pub with_position : OpenFiles → ℕ → OpenFile → ℕ → OpenFiles
with_position s serial f p = with_open_file s serial (record f { position = p })

-- a descriptor at a number
abbrev pub with_descriptor : OpenFiles → ℕ → Descriptor → OpenFiles
with_descriptor s n d = record s { descriptors = put s.descriptors n d }

-- a descriptor is gone
abbrev pub without_descriptor : OpenFiles → ℕ → OpenFiles
without_descriptor s n = record s { descriptors = removed s.descriptors n }

-- an open file is gone
abbrev pub without_open_file : OpenFiles → ℕ → OpenFiles
without_open_file s serial = record s { files = removed s.files serial }

-- a socket ends with its open file
abbrev pub without_socket : OpenFiles → ℕ → OpenFiles
without_socket s serial = record s { sockets = sockets.without s.sockets serial }

-- so many things were made
abbrev pub counted : OpenFiles → ℕ → OpenFiles
counted s things = record s { made = more_made s.made things }

-- an open file of its own at a number, the next that is made
abbrev pub installed : OpenFiles → ℕ → OpenFile → Bool → OpenFiles
installed s n file cloexec = record s {
  descriptors = put s.descriptors n (record { serial = s.made.last_serial + 1; cloexec = cloexec });
  files = put s.files (s.made.last_serial + 1) file;
  made = one_opened s.made;
}
