-- The lines of files and directories, and of the locks on them.
use Rattle.std.specs.Prelude.{ℕ, Bool, if◌then◌else◌, List, [], ◌∷◌, ◌++◌, codes}
use Rattle.std.specs.Int.{w64, cast_unsigned}
use Rattle.kernel_values.specs.declared.items.Attributes.{Attributes}
use Rattle.kernel_values.specs.declared.items.BytesItem.{BytesItem}
use Rattle.kernel_values.specs.declared.items.LockItem.{LockItem}
use Rattle.kernel_values.specs.declared.items.NameItem.{NameItem}
use Rattle.kernel_values.specs.declared.items.NodeItem.{NodeItem}
use Rattle.kernel_values.specs.declared.items.WorkingItem.{WorkingItem}
use Rattle.kernel_values.specs.declared.times.TimeSpec.{TimeSpec}
use Rattle.report_text.specs.Text.{hex_text}
use Rattle.report_text.specs.Fields.{bytes_line, numbers_line, numbers_text}

-- cwd INO
unfoldable pub cwd_text : WorkingItem → List ℕ
cwd_text w = numbers_line (codes "cwd") (w.inode ∷ [])

-- a time as SECONDS.NANOS, each as its two's complement in 64 bits
unfoldable pub time_text : TimeSpec → List ℕ
time_text t = codes " " ++ hex_text (cast_unsigned w64 t.seconds) ++ codes "." ++ hex_text (cast_unsigned w64 t.nanos)

-- when it was accessed, modified and changed
unfoldable pub times_text : Attributes → List ℕ
times_text a = time_text a.accessed ++ time_text a.modified ++ time_text a.changed

unfoldable pub node_letter : Bool → List ℕ
node_letter is_directory = if is_directory then codes " d" else codes " f"

unfoldable pub node_head : NodeItem → List ℕ
node_head n = codes "node" ++ numbers_text (n.inode ∷ []) ++ node_letter n.is_directory

unfoldable pub owner_text : NodeItem → List ℕ
owner_text n = numbers_text (n.size ∷ n.attributes.mode ∷ n.attributes.uid ∷ n.attributes.gid ∷ [])

-- node INO d|f SIZE MODE UID GID ACCESSED MODIFIED CHANGED
unfoldable pub node_text : NodeItem → List ℕ
node_text n = node_head n ++ owner_text n ++ times_text n.attributes ++ 10 ∷ []

-- name INO POSITION CHILD BYTES
unfoldable pub name_text : NameItem → List ℕ
name_text n = bytes_line (codes "name") (n.directory ∷ n.position ∷ n.child ∷ []) n.name

-- bytes INO OFFSET BYTES
unfoldable pub content_text : BytesItem → List ℕ
content_text b = bytes_line (codes "bytes") (b.inode ∷ b.offset ∷ []) b.bytes

unfoldable pub lock_letter : Bool → List ℕ
lock_letter write = if write then codes " w" else codes " r"

-- lock INO r|w FIRST LAST
unfoldable pub lock_text : LockItem → List ℕ
lock_text l = codes "lock" ++ numbers_text (l.inode ∷ []) ++ lock_letter l.write ++ numbers_text (l.first ∷ l.last ∷ []) ++ 10 ∷ []
