-- The making of pipes.
use Rattle.std.specs.Prelude.{ℕ, Result, Ok}
use Rattle.kernel_values.specs.Outcome.{◌>>=◌, settled}
use Rattle.kernel_values.specs.declared.errno.Errno.{Errno}
use Rattle.file_tree.specs.Making.{next_inode, with_inode_given}
use Rattle.open_files.specs.Piping as piping
use Rattle.file_store.specs.declared.state.Files.{Files}

-- a pipe, whose inode number is the next, with its ends at two numbers
abbrev pub with_pipe : Files → ℕ → ℕ × ℕ → Files
with_pipe s flags n = record {
  tree = with_inode_given s.tree;
  open_files = piping.with_pipe s.open_files flags n (next_inode s.tree);
}

-- pipe and pipe2
abbrev pub pipe : Files → ℕ → ℕ → Result (ℕ × ℕ) Errno × Files
pipe s limit flags = settled s (do
  n ← piping.pipe_numbers s.open_files limit flags
  Ok (n, with_pipe s flags n))
