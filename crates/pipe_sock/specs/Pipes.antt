-- The bytes that wait in pipes, by inode number. A pipe has room for 65,536 of them. Up to PIPE_BUF, 4,096 by
-- include/uapi/linux/limits.h, are written whole or not at all, as pipe(7) says.
use Rattle.std.specs.Prelude.{ℕ, ◌-◌, ◌==◌, ◌&&◌, min, nat_le, nat_lt, not, Bool, if◌then◌else◌, List, [], ◌++◌, length, take, drop, Option, Some, None, unwrap_or, Result, Ok, Err}
use Rattle.kernel_values.specs.Outcome.{◌>>=◌, ◌>>◌, refused_if, settled}
use Rattle.kernel_values.specs.declared.errno.Errno.{Errno}
use Rattle.kernel_values.specs.declared.errno.Errno.TheVariants.{BadAddress, BrokenPipe, TryAgain}
use Rattle.number_maps.specs.NumberMap.{at, changed}

-- the bytes that wait in a pipe; where there is none, none wait
abbrev pub waiting : List (ℕ × List ℕ) → ℕ → List ℕ
waiting pipes inode = unwrap_or (at pipes inode) []

-- other bytes wait, in a pipe that is there
abbrev pub refilled_as : List (ℕ × List ℕ) → ℕ → List ℕ → Option (List ℕ) → List (ℕ × List ℕ)
refilled_as pipes inode bytes None = pipes
refilled_as pipes inode bytes (Some old) = changed pipes inode bytes

unfoldable pub refilled : List (ℕ × List ℕ) → ℕ → List ℕ → List (ℕ × List ℕ)
refilled pipes inode bytes = refilled_as pipes inode bytes (at pipes inode)

-- how many of the bytes wanted move: as many as wait, and as there is room for
abbrev pub read_count : List ℕ → ℕ → ℕ → ℕ
read_count bytes wanted room = min (min wanted (length bytes)) room

-- how many bytes a read gives, or what refuses it: none where none are wanted; from an empty pipe none without a writer, and
-- else EAGAIN; EFAULT where bytes wait and there is no room
unfoldable pub read_length : List (ℕ × List ℕ) → ℕ → ℕ → ℕ → Bool → Result ℕ Errno
read_length pipes inode wanted room has_writer =
    if wanted == 0 then Ok 0 else do
      refused_if ((length (waiting pipes inode) == 0) && has_writer) TryAgain
      refused_if (not (length (waiting pipes inode) == 0) && (room == 0)) BadAddress
      Ok (read_count (waiting pipes inode) wanted room)

-- a read: the first bytes that wait, which wait no more
unfoldable pub read : List (ℕ × List ℕ) → ℕ → ℕ → ℕ → Bool → Result (List ℕ) Errno × List (ℕ × List ℕ)
read pipes inode wanted room has_writer = settled pipes (do
  n ← read_length pipes inode wanted room has_writer
  Ok (take n (waiting pipes inode), refilled pipes inode (drop n (waiting pipes inode))))

-- the bytes that a pipe has room for
abbrev pub free_room : List ℕ → ℕ
free_room bytes = 65536 - length bytes

-- up to 4,096 bytes fit whole or not at all; of more, some must fit
abbrev pub fits : List ℕ → ℕ → Bool
fits bytes wanted = if nat_le wanted 4096 then nat_le wanted (free_room bytes) else nat_lt 0 (free_room bytes)

-- a write of the bytes that could be taken from memory: no bytes wanted 0; without a reader EPIPE; EAGAIN where they don't
-- fit; EFAULT where none could be taken
unfoldable pub write : List (ℕ × List ℕ) → ℕ → ℕ → List ℕ → Bool → Result ℕ Errno × List (ℕ × List ℕ)
write pipes inode wanted piece has_reader = settled pipes (do
  if wanted == 0 then Ok (0, pipes) else do
    refused_if (not has_reader) BrokenPipe
    refused_if (not (fits (waiting pipes inode) wanted)) TryAgain
    refused_if (length piece == 0) BadAddress
    let n = min (min wanted (free_room (waiting pipes inode))) (length piece)
    Ok (n, refilled pipes inode (waiting pipes inode ++ take n piece)))
