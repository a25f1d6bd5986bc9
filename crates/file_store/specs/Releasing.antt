-- What ends with a descriptor, and what with the last that holds an open file.
use Rattle.std.specs.Prelude.{ℕ, zero, suc, ◌+◌, List, [], ◌∷◌, ◌++◌, length, Option, Some, None, if◌then◌else◌}
use Rattle.number_maps.specs.NumberMap.{at}
use Rattle.file_tree.specs.Removing.{let_go, without_locks_on}
use Rattle.socket_tables.specs.Sockets.{held_by, total_held}
use Rattle.open_files.specs.Descriptors.{without_open_file, without_socket}
use Rattle.open_files.specs.Holding.{is_held, is_open}
use Rattle.open_files.specs.Kinds.{is_of_pipe}
use Rattle.open_files.specs.Piping.{drained}
use Rattle.open_files.specs.declared.state.OpenFile.{OpenFile}
use Rattle.file_store.specs.declared.state.Files.{Files}

-- the state without the locks on the file that an open file is of
abbrev pub unlocked_as : Files → Option OpenFile → Files
unlocked_as s None = s
unlocked_as s (Some f) = record s { tree = without_locks_on s.tree f.inode }

-- the process's locks on a file go with any descriptor of it
unfoldable pub without_locks : Files → ℕ → Files
without_locks s serial = unlocked_as s (at s.open_files.files serial)

-- what an open file was of lasts while another open file has it, and a file while it has a name
unfoldable pub let_go_of : Files → OpenFile → Files
let_go_of s f =
    if is_of_pipe f.kind then record s { open_files = drained s.open_files f.inode } else record s { tree = let_go s.tree f.inode (is_open s.open_files.files f.inode) }

-- the state without an open file, where there is one
abbrev pub ended_as : Files → ℕ → Option OpenFile → Files
ended_as s serial None = s
ended_as s serial (Some f) = let_go_of (record s { open_files = without_open_file s.open_files serial }) f

-- an open file ends, and with it its socket, where it has one
unfoldable pub ended : Files → ℕ → Files
ended s serial =
    let t : Files = ended_as s serial (at s.open_files.files serial) in
    record t { open_files = without_socket t.open_files serial }

-- what the socket of an open file holds
abbrev pub held_in : Files → ℕ → List ℕ
held_in s serial = held_by s.open_files.sockets.entries serial

-- how many open files all sockets hold
abbrev pub all_held : Files → ℕ
all_held s = total_held s.open_files.sockets.entries

-- Of some open files each ends that nothing holds, and then in the same way what its socket held, behind the others. Open files that hold
-- only each other stay.
unfoldable pub swept : ℕ → Files → List ℕ → Files
swept zero s candidates = s
swept (suc n) s [] = s
swept (suc n) s (serial ∷ others) =
    if is_held s.open_files serial then swept n s others else swept n (ended s serial) (others ++ held_in s serial)

-- no more are looked at than these and what sockets hold
abbrev pub all_swept : Files → List ℕ → Files
all_swept s candidates = swept (length candidates + all_held s) s candidates

-- an open file goes with the last that holds it, and what its socket held likewise
unfoldable pub released : Files → ℕ → Files
released s serial = if is_held s.open_files serial then s else all_swept (ended s serial) (held_in s serial)
