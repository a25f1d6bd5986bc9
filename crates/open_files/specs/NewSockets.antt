-- The making of sockets: socket(2), socketpair(2), and the peers that connect(2) makes.
use Rattle.std.specs.Prelude.{ℕ, ℤ, pos, ◌+◌, ◌==◌, ◌||◌, Bool, not, [], Result, Ok, Err, if◌then◌else◌}
use Rattle.std.specs.Int.RustNames.{bit_and, bit_or}
use Rattle.std.specs.Ordering.{int_eq}
use Rattle.kernel_values.specs.Outcome.{◌>>=◌, ◌>>◌, refused_if}
use Rattle.kernel_values.specs.declared.errno.Errno.{Errno}
use Rattle.kernel_values.specs.declared.errno.Errno.TheVariants.{FamilyNotSupported, InvalidArgument, OperationNotSupported, ProtocolNotSupported, SocketTypeNotSupported, TableFull}
use Rattle.kernel_values.specs.declared.items.OpenKind.{OpenKind}
use Rattle.kernel_values.specs.declared.items.OpenKind.TheVariants as open_kind
use Rattle.kernel_values.specs.declared.sockets.SocketKind.{SocketKind}
use Rattle.kernel_values.specs.declared.sockets.SocketKind.TheVariants.{Stream, Datagram}
use Rattle.number_maps.specs.NumberMap.{put}
use Rattle.socket_tables.specs.Meeting as meeting
use Rattle.socket_tables.specs.Sockets as sockets
use Rattle.socket_tables.specs.declared.state.Meeting.TheVariants.{New}
use Rattle.open_files.specs.Descriptors.{counted, installed}
use Rattle.open_files.specs.Made.{is_full, one_opened}
use Rattle.open_files.specs.Numbers.{free_number, free_pair}
use Rattle.open_files.specs.Piping.{marks_close}
use Rattle.open_files.specs.declared.state.OpenFile.{OpenFile}
use Rattle.open_files.specs.declared.state.OpenFiles.{OpenFiles}

-- a type has its number in the low four bits, and SOCK_NONBLOCK, 0x800, and SOCK_CLOEXEC, 0x80000, beside it
abbrev pub has_type_bits : ℕ → Bool
has_type_bits word = bit_or word 0x8080f == 0x8080f

-- SOCK_STREAM is 1 and SOCK_DGRAM 2
abbrev pub kind_of : ℕ → Result SocketKind Errno
kind_of word = if bit_and word 15 == 1 then Ok Stream else if bit_and word 15 == 2 then Ok Datagram else Err SocketTypeNotSupported

-- a Unix socket: the type, and then the protocol, 0 or 1
abbrev pub unix_kind : ℕ → ℤ → Result SocketKind Errno
unix_kind word protocol = do
  kind ← kind_of word
  refused_if (not (int_eq protocol (pos 0) || int_eq protocol (pos 1))) ProtocolNotSupported
  Ok kind

-- what socket makes, of AF_UNIX, 1, alone
abbrev pub socket_kind : ℤ → ℕ → ℤ → Result SocketKind Errno
socket_kind domain word protocol = do
  refused_if (not (has_type_bits word)) InvalidArgument
  refused_if (not (int_eq domain (pos 1))) FamilyNotSupported
  unix_kind word protocol

-- what socketpair makes: of AF_INET, 2, none
abbrev pub pair_kind : ℤ → ℕ → ℤ → Result SocketKind Errno
pair_kind domain word protocol = do
  refused_if (not (has_type_bits word)) InvalidArgument
  refused_if (int_eq domain (pos 2)) OperationNotSupported
  refused_if (not (int_eq domain (pos 1))) FamilyNotSupported
  unix_kind word protocol

-- the number that a socket would have, and what it is
unfoldable pub socket_number : OpenFiles → ℕ → ℤ → ℕ → ℤ → Result (ℕ × SocketKind) Errno
socket_number s limit domain word protocol = do
  n ← free_number s 0 limit
  refused_if (is_full s.made) TableFull
  kind ← socket_kind domain word protocol
  Ok (n, kind)

-- the numbers that a pair of sockets would have, and what they are
unfoldable pub pair_numbers : OpenFiles → ℕ → ℤ → ℕ → ℤ → Result ((ℕ × ℕ) × SocketKind) Errno
pair_numbers s limit domain word protocol = do
  n ← free_pair s limit
  refused_if (is_full s.made) TableFull
  kind ← pair_kind domain word protocol
  Ok (n, kind)

abbrev pub open_kind_of : SocketKind → OpenKind
open_kind_of Stream = open_kind.Stream
open_kind_of Datagram = open_kind.Datagram

-- a socket is open for reading and writing; SOCK_NONBLOCK is kept, as O_NONBLOCK
abbrev pub socket_file : ℕ → SocketKind → ℕ → OpenFile
socket_file inode kind word = record { inode = inode; kind = open_kind_of kind; flags = record { 0 = bit_or 2 (bit_and word 0x800) }; position = 0 }

-- the open file of a socket, at a number: the next that is made, of an inode that is made with it
abbrev pub with_socket_file : OpenFiles → ℕ → SocketKind → ℕ → ℕ → OpenFiles
with_socket_file s n kind word inode = installed (counted s 1) n (socket_file inode kind word) (marks_close word)

-- a socket at a number
unfoldable pub with_socket : OpenFiles → ℕ → SocketKind → ℕ → ℕ → OpenFiles
with_socket s n kind word inode =
    let t : OpenFiles = with_socket_file s n kind word inode in
    record t { sockets = sockets.with_new s.sockets (s.made.last_serial + 1) kind New [] }

-- two sockets at two numbers, each the other's peer; each has an inode of its own
unfoldable pub with_pair : OpenFiles → ℕ × ℕ → SocketKind → ℕ → ℕ × ℕ → OpenFiles
with_pair s n kind word inodes =
    let t : OpenFiles = with_socket_file s n.0 kind word inodes.0 in
    let u : OpenFiles = with_socket_file t n.1 kind word inodes.1 in
    record u { sockets = sockets.with_pair s.sockets (s.made.last_serial + 1) (s.made.last_serial + 2) kind }

-- the peer that connect makes for a stream: an open file that no descriptor names yet, and its inode
unfoldable pub with_connection : OpenFiles → ℕ → ℕ → ℕ → OpenFiles
with_connection s caller there inode =
    let t : OpenFiles = counted s 1 in
    record t {
      files = put t.files (s.made.last_serial + 1) (socket_file inode Stream 0);
      sockets = meeting.with_connection s.sockets caller there (s.made.last_serial + 1);
      made = one_opened t.made;
    }
