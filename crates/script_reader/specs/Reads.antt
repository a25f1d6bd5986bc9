-- A reader of a script, and what a call for the next record comes to.
use Rattle.std.specs.Prelude.{◌≡◌, ◌≤◌, ⊤, ℕ, ◌+◌, ◌^◌, Bool, true, false, List, [], ◌∷◌, ◌++◌, length, Option, Some, None, Result, Ok, Err, OnOk, is_ok}
use Rattle.io_edge.specs.Told.{Rose, IsAtEnd}
use Rattle.script_reader.specs.declared.fault.LineCause.{LineCause}
use Rattle.script_reader.specs.declared.fault.ScriptFault.{ScriptFault}
use Rattle.script_reader.specs.declared.fault.ScriptFault.TheVariants as faults
use Rattle.script_reader.specs.declared.record.Record.{Record}
use Rattle.script_reader.specs.declared.seen.Seen.{Seen}
use Rattle.script_reader.specs.declared.ahead.Ahead.{Ahead}
use Rattle.script_reader.specs.Ahead.{bytes_of}
use Rattle.script_reader.specs.Ending.{Ending, Whole, ScriptText, ends, with_record, with_records}
use Rattle.script_reader.specs.Ending as endings
use Rattle.script_reader.specs.Grammar.{Line, line_of, IsInRange}
use Rattle.script_reader.specs.Seen.{new_seen}
use Rattle.script_reader.specs.Script.{Next, Given, BadLine, TooLarge, AtEnd, next_from, ending_at, script_of, script_from}

pub record ScriptState : Type 0 where
  -- what has been seen of the script
  pub seen : Seen
  -- how many bytes have gone by
  pub count : ℕ
  -- those that were read behind them
  pub ahead : List ℕ
  -- whether it may be asked for a record
  pub alive : Bool

abbrev pub new_script : ScriptState
new_script = record { seen = new_seen; count = 0; ahead = []; alive = true }

-- what comes first in the bytes read ahead and further ones
abbrev pub next_in : ScriptState → List ℕ → Next
next_in s bytes = next_from s.seen [] s.count (s.ahead ++ bytes)

-- what comes first in the bytes read ahead alone
abbrev pub next_ahead : ScriptState → Next
next_ahead s = next_from s.seen [] s.count s.ahead

-- there is a whole line, or a fault, and further bytes change nothing
abbrev pub IsFound : Next → Type 0
IsFound (Given line seen count rest) = ⊤
IsFound (BadLine line cause) = ⊤
IsFound TooLarge = ⊤
IsFound (AtEnd seen line count) = ⊥

-- what is left of the script where these bytes follow those read ahead
abbrev pub script_left : ScriptState → List ℕ → ScriptText
script_left s bytes = script_from s.seen [] s.count (s.ahead ++ bytes)

-- a line is bad, by itself or where the stream ends
abbrev pub IsBadIn : Next → Option (List ℕ) → ℕ → LineCause → Type 0
IsBadIn (Given line seen count rest) left number cause = ⊥
IsBadIn (BadLine n c) left number cause = (n ≡ number) × (c ≡ cause)
IsBadIn TooLarge left number cause = ⊥
IsBadIn (AtEnd seen line count) left number cause = IsAtEnd left × (ending_at seen line ≡ endings.BadLine number cause)

-- The answer of a call, from what comes first in the bytes that it had and took, and what the source has left. Of a
-- failed read and of want of memory this says nothing.
abbrev pub Answers : Next → Option (List ℕ) → Result (Option Record) ScriptFault → ScriptState → Type 0
Answers next left (Ok (Some r)) after = (next ≡ Given (line_of r) after.seen after.count after.ahead) × IsInRange (line_of r) × (after.alive ≡ true)
Answers next left (Ok None) after = (next ≡ AtEnd after.seen [] after.count) × (after.ahead ≡ []) × (ending_at after.seen [] ≡ Whole) × IsAtEnd left × (after.alive ≡ true)
Answers next left (Err (faults.BadLine line cause)) after = IsBadIn next left line cause × (after.alive ≡ false)
Answers next left (Err faults.TooLarge) after = (next ≡ TooLarge) × (after.alive ≡ false)
Answers next left (Err faults.ReadFault) after = after.alive ≡ false
Answers next left (Err faults.OutOfMemory) after = after.alive ≡ false

-- how many bytes have gone by or stand read ahead
abbrev pub read_count : ScriptState → ℕ
read_count s = s.count + length s.ahead

-- How many bytes a call took: with those read before it at most one more than a script has, whatever it answers. Without
-- a fault each of them has gone by or stands read ahead.
pub record TakesFew (before size : ℕ) (answer : Result (Option Record) ScriptFault) (after : ℕ) : Type 0 where
  pub most : before + size ≤ 2 ^ 28 + 1
  pub kept : OnOk answer (after ≡ before + size)

-- how the count of faults goes with an answer
abbrev pub Counts : Result (Option Record) ScriptFault → ℕ → ℕ → Type 0
Counts (Ok found) before after = after ≡ before
Counts (Err (faults.BadLine line cause)) before after = after ≡ before
Counts (Err faults.TooLarge) before after = after ≡ before
Counts (Err faults.ReadFault) before after = (before ≤ after) × Rose before after
Counts (Err faults.OutOfMemory) before after = after ≡ before

-- the answer of a call from what was left of the script, where the source tells its bytes
abbrev pub IsNextOf : ScriptText → Option (List ℕ) → Result (Option Record) ScriptFault → ScriptState → Type 0
IsNextOf text left (Ok (Some r)) after = (rest : List ℕ) × (left ≡ Some rest) × (text ≡ with_record (line_of r) (script_left after rest))
IsNextOf text left (Ok None) after = (left ≡ Some []) × (text ≡ ends Whole)
IsNextOf text left (Err (faults.BadLine line cause)) after = text ≡ ends (endings.BadLine line cause)
IsNextOf text left (Err faults.TooLarge) after = text ≡ ends endings.TooLarge
IsNextOf text left (Err faults.ReadFault) after = ⊤
IsNextOf text left (Err faults.OutOfMemory) after = ⊤

-- the state after an answer: alive unless it is a fault
abbrev pub state_after : Result (Option Record) ScriptFault → Seen → Ahead → ScriptState
state_after answer seen ahead = record { seen = seen; count = ahead.count; ahead = bytes_of ahead; alive = is_ok answer }

-- the answer where a stream ends behind this line so far
abbrev pub IsEndOf : Seen → List ℕ → Result (Option Record) ScriptFault → Type 0
IsEndOf seen line (Ok (Some r)) = ⊥
IsEndOf seen line (Ok None) = (line ≡ []) × (ending_at seen [] ≡ Whole)
IsEndOf seen line (Err (faults.BadLine number cause)) = ending_at seen line ≡ endings.BadLine number cause
IsEndOf seen line (Err faults.TooLarge) = ⊥
IsEndOf seen line (Err faults.ReadFault) = ⊥
IsEndOf seen line (Err faults.OutOfMemory) = ⊥

-- The calls so far gave these records: the bytes that have gone by are the front of a script that gives them, whatever
-- follows.
abbrev pub HasGiven : ScriptState → List Line → Type 0
HasGiven s lines = (bytes : List ℕ) × (length bytes ≡ s.count) × ((more : List ℕ) → script_of (bytes ++ more) ≡ with_records lines (script_from s.seen [] s.count more))

-- these are all the records of some bytes, at most one more than a script has, and this is their ending
abbrev pub IsScript : List Line → Ending → Type 0
IsScript lines ending = (bytes : List ℕ) × (length bytes ≤ 2 ^ 28 + 1) × (script_of bytes ≡ record { records = lines; ending = ending })

-- an answer behind the records that the calls before it gave
abbrev pub GivesBehind : List Line → Result (Option Record) ScriptFault → ScriptState → Type 0
GivesBehind lines (Ok (Some r)) after = HasGiven after (lines ++ line_of r ∷ [])
GivesBehind lines (Ok None) after = IsScript lines Whole × HasGiven after lines
GivesBehind lines (Err (faults.BadLine line cause)) after = IsScript lines (endings.BadLine line cause)
GivesBehind lines (Err faults.TooLarge) after = IsScript lines endings.TooLarge
GivesBehind lines (Err faults.ReadFault) after = ⊤
GivesBehind lines (Err faults.OutOfMemory) after = ⊤
