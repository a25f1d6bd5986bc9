-- The making of pipes, and their end.
use Rattle.std.specs.Prelude.{ℕ, ◌==◌, Bool, not, [], Result, Ok, if◌then◌else◌}
use Rattle.std.specs.Int.RustNames.{bit_and, bit_or}
use Rattle.kernel_values.specs.Outcome.{◌>>=◌, ◌>>◌, refused_if}
use Rattle.kernel_values.specs.declared.errno.Errno.{Errno}
use Rattle.kernel_values.specs.declared.errno.Errno.TheVariants.{InvalidArgument, TableFull}
use Rattle.kernel_values.specs.declared.items.OpenKind.{OpenKind}
use Rattle.kernel_values.specs.declared.items.OpenKind.TheVariants.{PipeRead, PipeWrite}
use Rattle.number_maps.specs.NumberMap.{put, removed}
use Rattle.open_files.specs.Descriptors.{installed}
use Rattle.open_files.specs.Holding.{is_open}
use Rattle.open_files.specs.Made.{is_full, more_made}
use Rattle.open_files.specs.Numbers.{free_pair}
use Rattle.open_files.specs.declared.state.OpenFile.{OpenFile}
use Rattle.open_files.specs.declared.state.OpenFiles.{OpenFiles}

-- O_NONBLOCK, 0x800, and O_CLOEXEC, 0x80000, are the flags of pipe2
abbrev pub is_pipe_flags : ℕ → Bool
is_pipe_flags flags = bit_or flags 0x80800 == 0x80800

-- the numbers that a pipe's ends would have; the flags are refused last
unfoldable pub pipe_numbers : OpenFiles → ℕ → ℕ → Result (ℕ × ℕ) Errno
pipe_numbers s limit flags = do
  n ← free_pair s limit
  refused_if (is_full s.made) TableFull
  refused_if (not (is_pipe_flags flags)) InvalidArgument
  Ok n

-- an end of a pipe, with its access mode; O_NONBLOCK is kept
abbrev pub pipe_end : ℕ → OpenKind → ℕ → ℕ → OpenFile
pipe_end inode kind access flags = record { inode = inode; kind = kind; flags = record { 0 = bit_or access (bit_and flags 0x800) }; position = 0 }

-- both ends have the close-on-exec mark, or none
abbrev pub marks_close : ℕ → Bool
marks_close flags = bit_and flags 0x80000 == 0x80000

-- an inode of an empty pipe
abbrev pub with_empty_pipe : OpenFiles → ℕ → OpenFiles
with_empty_pipe s inode = record s {
  made = more_made s.made 1;
  pipes = put s.pipes inode [];
}

-- a pipe: its inode, its read end at the first number, and then its write end at the second
unfoldable pub with_pipe : OpenFiles → ℕ → ℕ × ℕ → ℕ → OpenFiles
with_pipe s flags n inode =
    let r : OpenFiles = installed (with_empty_pipe s inode) n.0 (pipe_end inode PipeRead 0 flags) (marks_close flags) in
    installed r n.1 (pipe_end inode PipeWrite 1 flags) (marks_close flags)

-- a pipe lasts while an open file holds it
unfoldable pub drained : OpenFiles → ℕ → OpenFiles
drained s inode = if is_open s.files inode then s else record s { pipes = removed s.pipes inode }
