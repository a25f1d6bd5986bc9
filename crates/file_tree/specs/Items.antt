-- What is told of the working directory, of files, directories, their names and bytes, and of locks, item by item, and what of it
-- is left at a cursor.
use Rattle.std.specs.Prelude.{ℕ, ◌==◌, List, [], ◌∷◌, ◌++◌, drop, map, Option, Some, None, if◌then◌else◌}
use Rattle.kernel_values.specs.declared.items.StateItem.{StateItem}
use Rattle.kernel_values.specs.declared.items.StateItem.TheVariants as item
use Rattle.file_bytes.specs.Runs.{runs_from}
use Rattle.number_maps.specs.NumberMap.{after, at}
use Rattle.record_locks.specs.declared.state.OwnLock.{OwnLock}
use Rattle.file_tables.specs.declared.state.Directory.{Directory}
use Rattle.file_tables.specs.declared.state.Entry.{Entry}
use Rattle.file_tables.specs.declared.state.Node.{Node}
use Rattle.file_tree.specs.Lengths.{bytes_of, size_of}
use Rattle.file_tree.specs.Locks.{is_of_writers}
use Rattle.file_tree.specs.OwnLocks.{locks_on}
use Rattle.file_tree.specs.Paths.{is_directory}
use Rattle.file_tree.specs.declared.state.FileTree.{FileTree}
use Rattle.file_tree.specs.declared.items.TreeCursor.{TreeCursor}
use Rattle.file_tree.specs.declared.items.TreeCursor.TheVariants as cursor

-- a file or a directory
abbrev pub node_item : FileTree → ℕ × Node → StateItem
node_item s entry = item.Node (record { inode = entry.0; is_directory = is_directory s entry.0; size = size_of s entry.0; attributes = entry.1.attributes })

-- a name in a directory
abbrev pub name_item : ℕ → ℕ × Entry → StateItem
name_item directory entry = item.Name (record { directory = directory; position = entry.0; child = entry.1.child; name = entry.1.name })

-- a run of a file's bytes
abbrev pub bytes_item : ℕ → ℕ × List ℕ → StateItem
bytes_item inode run = item.Bytes (record { inode = inode; offset = run.0; bytes = run.1 })

-- a lock of the process
abbrev pub lock_item : ℕ → OwnLock → StateItem
lock_item inode l = item.Lock (record { inode = inode; write = is_of_writers l.kind; first = l.first; last = l.last })

-- the names of a directory by position; where there is no directory, there are none
abbrev pub names_as : Option Directory → List (ℕ × Entry)
names_as None = []
names_as (Some d) = d.names

abbrev pub names_in : FileTree → ℕ → List (ℕ × Entry)
names_in s inode = names_as (at s.directories inode)

-- each node, then the names in it by position, its runs of bytes other than 0, and the locks on it
unfoldable pub node_items : FileTree → List (ℕ × Node) → List StateItem
node_items s [] = []
node_items s (e ∷ es) = node_item s e ∷ (map (name_item e.0) (names_in s e.0) ++ (map (bytes_item e.0) (runs_from (bytes_of s e.0) 0)
    ++ (map (lock_item e.0) (locks_on s.own_locks e.0) ++ node_items s es)))

-- What is left of a part is followed by all of the later parts. The last part: nodes by inode number, each with what is in it.
abbrev pub nodes_left : FileTree → Option ℕ → List StateItem
nodes_left s last = node_items s (after s.nodes last)

-- the locks on one node, but for so many of the first ones
abbrev pub locks_left : FileTree → ℕ → ℕ → List StateItem
locks_left s inode count = map (lock_item inode) (drop count (locks_on s.own_locks inode)) ++ nodes_left s (Some inode)

-- the bytes of one node, from an offset on
abbrev pub bytes_left : FileTree → ℕ → ℕ → List StateItem
bytes_left s inode offset = map (bytes_item inode) (runs_from (bytes_of s inode) offset) ++ locks_left s inode 0

-- the names in one node
abbrev pub names_left : FileTree → ℕ → Option ℕ → List StateItem
names_left s inode last = map (name_item inode) (after (names_in s inode) last) ++ bytes_left s inode 0

-- the working directory, where it isn't the root
abbrev pub working_items : FileTree → List StateItem
working_items s = if s.working == 2 then [] else item.Working (record { inode = s.working }) ∷ []

abbrev pub working_left : FileTree → List StateItem
working_left s = working_items s ++ nodes_left s None

-- the items that are left at a cursor
unfoldable pub tree_left : FileTree → TreeCursor → List StateItem
tree_left s cursor.Working = working_left s
tree_left s (cursor.Nodes last) = nodes_left s last
tree_left s (cursor.Names directory last) = names_left s directory last
tree_left s (cursor.Bytes inode offset) = bytes_left s inode offset
tree_left s (cursor.Locks inode count) = locks_left s inode count

-- all items, in the order of a report
abbrev pub tree_items : FileTree → List StateItem
tree_items s = tree_left s cursor.Working
