-- What is told of descriptors, open files and pipes, item by item, and what of it is left at a cursor.
use Rattle.std.specs.Prelude.{ℕ, List, [], ◌∷◌, ◌++◌, map, Option, Some, None}
use Rattle.std.specs.List.{flat_map}
use Rattle.kernel_values.specs.declared.items.StateItem.{StateItem}
use Rattle.kernel_values.specs.declared.items.StateItem.TheVariants as item
use Rattle.number_maps.specs.NumberMap.{after, at}
use Rattle.socket_tables.specs.Items.{peer_told, socket_left, state_told}
use Rattle.socket_tables.specs.Sockets.{SocketsState}
use Rattle.socket_tables.specs.declared.items.SocketPart.{SocketPart}
use Rattle.socket_tables.specs.declared.items.SocketPart.TheVariants as part
use Rattle.socket_tables.specs.declared.state.Socket.{Socket}
use Rattle.open_files.specs.declared.state.Descriptor.{Descriptor}
use Rattle.open_files.specs.declared.state.OpenFile.{OpenFile}
use Rattle.open_files.specs.declared.state.OpenFiles.{OpenFiles}
use Rattle.open_files.specs.declared.items.OpenCursor.{OpenCursor}
use Rattle.open_files.specs.declared.items.OpenCursor.TheVariants as cursor

abbrev pub descriptor_item : ℕ × Descriptor → StateItem
descriptor_item entry = item.Descriptor (record { number = entry.0; serial = entry.1.serial; cloexec = entry.1.cloexec })

abbrev pub file_item : ℕ × OpenFile → StateItem
file_item entry = item.OpenFile (record { serial = entry.0; kind = entry.1.kind; flags = entry.1.flags; position = entry.1.position; inode = entry.1.inode })

-- an open file that is a Unix socket
abbrev pub socket_item : SocketsState → ℕ × OpenFile → Socket → StateItem
socket_item s entry k = item.Socket (record {
  serial = entry.0;
  kind = k.status.kind;
  flags = entry.1.flags;
  inode = entry.1.inode;
  state = state_told k.status.meeting;
  peer = peer_told s k.status.meeting;
  shut_read = k.status.reading_shut;
  shut_write = k.status.writing_shut;
  passes_credentials = k.status.passes_credentials;
})

-- an open file, and behind it what is told of it as a socket
abbrev pub open_items_as : SocketsState → ℕ × OpenFile → Option Socket → List StateItem
open_items_as s entry None = file_item entry ∷ []
open_items_as s entry (Some k) = socket_item s entry k ∷ socket_left entry.0 k part.Bound

abbrev pub open_items_of : SocketsState → ℕ × OpenFile → List StateItem
open_items_of s entry = open_items_as s entry (at s.entries entry.0)

-- a pipe and the bytes that wait in it
abbrev pub pipe_item : ℕ × List ℕ → StateItem
pipe_item entry = item.Pipe (record { inode = entry.0; bytes = entry.1 })

-- What is left of a part is followed by all of the later parts. The last part: pipes by inode number.
abbrev pub pipes_left : OpenFiles → Option ℕ → List StateItem
pipes_left s last = map pipe_item (after s.pipes last)

-- open files by serial number
abbrev pub files_left : OpenFiles → Option ℕ → List StateItem
files_left s last = flat_map (open_items_of s.sockets) (after s.files last) ++ pipes_left s None

-- what is left of one socket
abbrev pub part_left_as : ℕ → SocketPart → Option Socket → List StateItem
part_left_as serial place None = []
part_left_as serial place (Some k) = socket_left serial k place

abbrev pub part_left : OpenFiles → ℕ → SocketPart → List StateItem
part_left s serial place = part_left_as serial place (at s.sockets.entries serial) ++ files_left s (Some serial)

-- an open file, what is told of it as a socket, and the open files behind it
abbrev pub told_left : OpenFiles → ℕ → OpenFile → List StateItem
told_left s serial file = open_items_of s.sockets (serial, file) ++ files_left s (Some serial)

-- descriptors by number
abbrev pub descriptors_left : OpenFiles → Option ℕ → List StateItem
descriptors_left s last = map descriptor_item (after s.descriptors last) ++ files_left s None

-- the items that are left at a cursor
unfoldable pub open_left : OpenFiles → OpenCursor → List StateItem
open_left s (cursor.Descriptors last) = descriptors_left s last
open_left s (cursor.OpenFiles last) = files_left s last
open_left s (cursor.Socket serial place) = part_left s serial place
open_left s (cursor.Pipes last) = pipes_left s last

-- all items, in the order of a report
abbrev pub open_items : OpenFiles → List StateItem
open_items s = open_left s (cursor.Descriptors None)
