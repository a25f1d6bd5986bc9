-- What has been seen of a script, and whether a line may stand at its place.
use Rattle.std.specs.Prelude.{⊤, ℕ, zero, suc, ◌+◌, ◌/◌, ◌^◌, ◌==◌, ◌&&◌, ◌||◌, not, nat_le, if◌then◌else◌, Bool, true, false, List, [], ◌∷◌, length, Option, Some, None, Result, Ok, Err}
use Rattle.std.specs.Ordering.{nat_cmp}
use Rattle.std.specs.BTreeSet.{BTreeSet, contains, insert_key, btree_set_len}
use Rattle.file_tree.specs.Image.{fresh_tree, is_free_name, has_bytes, image_directory, image_file}
use Rattle.kernel_values.specs.declared.abi.AbiKind.{AbiKind}
use Rattle.script_reader.specs.declared.fault.LineCause.{LineCause}
use Rattle.script_reader.specs.declared.fault.LineCause.TheVariants as causes
use Rattle.script_reader.specs.declared.seen.Seen.{Seen}
use Rattle.script_reader.specs.declared.seen.Told as answer
use Rattle.script_reader.specs.declared.seen.Told.TheVariants as answers
use Rattle.script_reader.specs.Grammar.{Line, Header, Clock, Who, Usage, Restorer, Page, Dir, File, Bytes, Lock, Poke, Call, Advance, Post, Show, IsInRange, abi_of, read_line, line_of}

abbrev pub new_seen : Seen
new_seen = record { lines = 0; abi = None; clock = false; who = false; usage = false; restorer = false; begun = false; pages = record { keys = [] }; files = fresh_tree }

-- whether the page with this number is mapped
abbrev pub has_page : BTreeSet ℕ → ℕ → Bool
has_page pages number = contains nat_cmp pages number

abbrev pub with_page : BTreeSet ℕ → ℕ → BTreeSet ℕ
with_page pages number = record { keys = insert_key nat_cmp pages.keys number }

-- whether each of n addresses from a on is in a page that is mapped
unfoldable pub all_mapped : BTreeSet ℕ → ℕ → ℕ → Bool
all_mapped pages a zero = true
all_mapped pages a (suc n) = has_page pages (a / 4096) && all_mapped pages (a + 1) n

-- the range doesn't pass 2^32 either
abbrev pub is_covered : BTreeSet ℕ → ℕ → ℕ → Bool
is_covered pages a n = nat_le (a + n) (2 ^ 32) && all_mapped pages a n

-- a line of the image stands before the first event, and its place is free
abbrev pub image_fault : Seen → Bool → Option LineCause
image_fault s given = if s.begun then Some causes.Order else (if given then Some causes.Image else None)

-- why a line may not stand behind what has been seen
abbrev pub misplaced : Seen → Line → Option LineCause
misplaced s (Header kind) = None
misplaced s (Clock real monotonic) = image_fault s s.clock
misplaced s (Who owner privileged) = image_fault s s.who
misplaced s (Usage usage) = image_fault s s.usage
misplaced s (Restorer address) = image_fault s s.restorer
misplaced s (Page at writable bytes) = image_fault s (has_page s.pages (at / 4096) || nat_le 16384 (btree_set_len s.pages))
misplaced s (Dir path inode) = image_fault s (not (is_free_name s.files path inode))
misplaced s (File path inode size) = image_fault s (not (is_free_name s.files path inode))
misplaced s (Bytes path offset bytes) = image_fault s (not (has_bytes s.files path offset (length bytes)))
misplaced s (Lock path write start count pid) = image_fault s (not (has_bytes s.files path 0 0))
misplaced s (Poke at bytes) = if is_covered s.pages at (length bytes) then None else Some causes.Image
misplaced s (Call registers) = None
misplaced s (Advance nanos) = None
misplaced s (Post info) = None
misplaced s Show = None

-- what has been seen with a line that may stand there
abbrev pub seen_with : Seen → Line → Seen
seen_with s (Header kind) = record s { abi = Some kind }
seen_with s (Clock real monotonic) = record s { clock = true }
seen_with s (Who owner privileged) = record s { who = true }
seen_with s (Usage usage) = record s { usage = true }
seen_with s (Restorer address) = record s { restorer = true }
seen_with s (Page at writable bytes) = record s { pages = with_page s.pages (at / 4096) }
seen_with s (Dir path inode) = record s { files = (image_directory s.files path inode).1 }
seen_with s (File path inode size) = record s { files = (image_file s.files path inode size).1 }
seen_with s (Bytes path offset bytes) = s
seen_with s (Lock path write start count pid) = s
seen_with s (Poke at bytes) = s
seen_with s (Call registers) = record s { begun = true }
seen_with s (Advance nanos) = record s { begun = true }
seen_with s (Post info) = record s { begun = true }
seen_with s Show = record s { begun = true }

abbrev pub counted : Seen → Seen
counted s = record s { lines = s.lines + 1 }

-- an empty line or a comment
abbrev pub is_passed : List ℕ → Bool
is_passed [] = true
is_passed (b ∷ bs) = b == 35

abbrev pub header_said : Option AbiKind → Result Line LineCause
header_said None = Err causes.Header
header_said (Some kind) = Ok (Header kind)

-- the first line is the header; what any other says goes by its ABI
abbrev pub said : Option AbiKind → List ℕ → Result Line LineCause
said None line = header_said (abi_of line)
said (Some kind) line = read_line kind line

-- what a whole line comes to, without its line feed
pub data Told : Type 0 where
  Passed : (after : Seen) → Told
  Says : (line : Line) (after : Seen) → Told
  Bad : (cause : LineCause) → Told

abbrev pub told_at : Seen → Line → Option LineCause → Told
told_at s line None = Says line (seen_with (counted s) line)
told_at s line (Some cause) = Bad cause

abbrev pub told : Seen → Result Line LineCause → Told
told s (Ok line) = told_at s line (misplaced s line)
told s (Err cause) = Bad cause

unfoldable pub line_told : Seen → List ℕ → Told
line_told s line = if is_passed line then Passed (counted s) else told s (said s.abi line)

-- what a line came to, from what was answered and what has been seen then
abbrev pub told_by : answer.Told → Seen → Told
told_by answers.Passed after = Passed after
told_by (answers.Record r) after = Says (line_of r) after
told_by (answers.Bad cause) after = Bad cause

-- where a line says something, it is in its range
abbrev pub IsToldInRange : Told → Type 0
IsToldInRange (Passed after) = ⊤
IsToldInRange (Says line after) = IsInRange line
IsToldInRange (Bad cause) = ⊤
