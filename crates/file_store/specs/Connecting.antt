-- The making of sockets, and what connects them: socket(2), socketpair(2) and connect(2). Each socket has an inode number of its own.
use Rattle.std.specs.Prelude.{ℕ, ℤ, List, Result, Ok, ⊤, if◌then◌else◌}
use Rattle.kernel_values.specs.Outcome.{◌>>=◌, ◌>>◌, refused_if, settled}
use Rattle.kernel_values.specs.declared.errno.Errno.{Errno}
use Rattle.kernel_values.specs.declared.errno.Errno.TheVariants.{TableFull}
use Rattle.kernel_values.specs.declared.sockets.SocketKind.{SocketKind}
use Rattle.file_tree.specs.Making.{next_inode, with_inode_given}
use Rattle.socket_tables.specs.Meeting.{datagram_connected, listener}
use Rattle.socket_tables.specs.Sockets.{streams}
use Rattle.open_files.specs.Made.{is_full}
use Rattle.open_files.specs.NewSockets as new_sockets
use Rattle.open_files.specs.NewSockets.{pair_numbers, socket_number}
use Rattle.open_files.specs.Sockets.{unix_serial}
use Rattle.open_files.specs.Transfers.{with_sockets}
use Rattle.file_store.specs.State.{with_open_files}
use Rattle.file_store.specs.declared.state.Files.{Files}

-- a socket at a number
abbrev pub with_socket : Files → ℕ → ℕ × SocketKind → Files
with_socket s word n = record {
  tree = with_inode_given s.tree;
  open_files = new_sockets.with_socket s.open_files n.0 n.1 word (next_inode s.tree);
}

abbrev pub socket : Files → ℕ → ℤ → ℕ → ℤ → Result ℕ Errno × Files
socket s limit domain word protocol = settled s (do
  n ← socket_number s.open_files limit domain word protocol
  Ok (n.0, with_socket s word n))

-- two sockets at two numbers; the first has the first of two inode numbers
abbrev pub with_pair : Files → ℕ → (ℕ × ℕ) × SocketKind → Files
with_pair s word n = record {
  tree = with_inode_given (with_inode_given s.tree);
  open_files = new_sockets.with_pair s.open_files n.0 n.1 word (next_inode s.tree, next_inode (with_inode_given s.tree));
}

-- socketpair
abbrev pub socket_pair : Files → ℕ → ℤ → ℕ → ℤ → Result (ℕ × ℕ) Errno × Files
socket_pair s limit domain word protocol = settled s (do
  n ← pair_numbers s.open_files limit domain word protocol
  Ok (n.0, with_pair s word n))

-- a stream is connected to a listening socket, both by serial number
abbrev pub with_connection : Files → ℕ → ℕ → Files
with_connection s caller there = record {
  tree = with_inode_given s.tree;
  open_files = new_sockets.with_connection s.open_files caller there (next_inode s.tree);
}

unfoldable pub connect_stream : Files → ℕ → List ℕ → Result (⊤ × Files) Errno
connect_stream s caller name = do
  there ← listener s.open_files.sockets caller name
  refused_if (is_full s.open_files.made) TableFull
  Ok (tt, with_connection s caller there)

abbrev pub connect : Files → ℤ → List ℕ → Result ⊤ Errno × Files
connect s fd name = settled s (do
  serial ← unix_serial s.open_files fd
  stream ← streams s.open_files.sockets serial
  if stream then connect_stream s serial name
      else with_open_files s (with_sockets s.open_files (datagram_connected s.open_files.sockets serial name)))
