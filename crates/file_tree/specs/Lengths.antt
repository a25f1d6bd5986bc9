-- The bytes and the lengths of files, and their times with them.
use Rattle.std.specs.Prelude.{ℕ, Bool, nat_lt, length, List, [], Option, if◌then◌else◌}
use Rattle.kernel_values.specs.declared.status.FileTimes.{FileTimes}
use Rattle.kernel_values.specs.declared.times.TimeSpec.{TimeSpec}
use Rattle.number_maps.specs.NumberMap.{put}
use Rattle.file_tables.specs.Nodes.{touched}
use Rattle.file_tables.specs.Times.{retimed_node}
use Rattle.file_tree.specs.Contents.{content_of, overwritten, relengthened}
use Rattle.file_tree.specs.declared.state.FileTree.{FileTree}

-- the bytes of a file
abbrev pub bytes_of : FileTree → ℕ → List ℕ
bytes_of s inode = content_of s.contents inode

-- how many bytes a file has
abbrev pub size_of : FileTree → ℕ → ℕ
size_of s inode = length (bytes_of s inode)

-- other bytes of a file from a place on
abbrev pub with_bytes : FileTree → ℕ → ℕ → List ℕ → FileTree
with_bytes s inode start bytes = record s { contents = overwritten s.contents inode start bytes }

-- the same at a time, which sets both times of the file
unfoldable pub with_written : FileTree → TimeSpec → ℕ → ℕ → List ℕ → FileTree
with_written s now inode start bytes = record s {
  contents = overwritten s.contents inode start bytes;
  nodes = touched s.nodes inode now;
}

-- an inode without bytes; its times stay
unfoldable pub emptied : FileTree → ℕ → FileTree
emptied s inode = record s { contents = put s.contents inode [] }

-- a file has another length at a time, which sets both times of the file, also where the length stays
unfoldable pub with_length : FileTree → TimeSpec → ℕ → ℕ → FileTree
with_length s now inode n = record s {
  contents = relengthened s.contents inode n;
  nodes = touched s.nodes inode now;
}

-- a file that reaches up to an end at least, where its length is to be raised; its times stay
unfoldable pub with_end : FileTree → Bool → ℕ → ℕ → FileTree
with_end s raises inode end =
    if raises then (if nat_lt (size_of s inode) end then record s { contents = relengthened s.contents inode end } else s) else s

-- the times of an inode are set
unfoldable pub retimed : FileTree → ℕ → TimeSpec → Option FileTimes → FileTree
retimed s inode now times = record s { nodes = retimed_node s.nodes inode now times }
