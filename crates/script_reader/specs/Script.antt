-- A script as its bytes from the front, one record at a time and whole.
use Rattle.std.specs.Prelude.{ℕ, ◌+◌, ◌^◌, ◌==◌, nat_le, if◌then◌else◌, is_none, Bool, true, false, List, [], ◌∷◌, ◌++◌, length}
use Rattle.script_reader.specs.declared.fault.LineCause.{LineCause}
use Rattle.script_reader.specs.declared.fault.LineCause.TheVariants as causes
use Rattle.script_reader.specs.declared.seen.Seen.{Seen}
use Rattle.script_reader.specs.Ending.{Ending, Whole, ScriptText, ends, with_record}
use Rattle.script_reader.specs.Ending as endings
use Rattle.script_reader.specs.Grammar.{Line}
use Rattle.script_reader.specs.Seen.{Told, Passed, Says, Bad, line_told, new_seen}

-- the most bytes of a script
abbrev pub limit : ℕ
limit = 2 ^ 28

-- what comes first in bytes
pub data Next : Type 0 where
  -- a record; what has been seen with it, how many bytes have gone by, and those behind it
  Given : (line : Line) (seen : Seen) (count : ℕ) (rest : List ℕ) → Next
  -- a bad line
  BadLine : (line : ℕ) (cause : LineCause) → Next
  -- one byte more than a script may have
  TooLarge : Next
  -- nothing: the bytes end behind a part of a line, or behind a line
  AtEnd : (seen : Seen) (line : List ℕ) (count : ℕ) → Next

-- what follows from a whole line
abbrev pub next_told : ℕ → Told → ℕ → List ℕ → (Seen → Next) → Next
next_told number (Passed after) count rest go = go after
next_told number (Says line after) count rest go = Given line after count rest
next_told number (Bad cause) count rest go = BadLine number cause

-- what comes first, from what has been seen, the line so far, how many bytes have gone by, and the bytes from there on
unfoldable pub next_from : Seen → List ℕ → ℕ → List ℕ → Next
next_from seen line count [] = AtEnd seen line count
next_from seen line count (b ∷ bs) =
    if nat_le limit count then TooLarge
    else (if b == 10 then next_told (seen.lines + 1) (line_told seen line) (count + 1) bs (λ after. next_from after [] (count + 1) bs)
    else (if length line == 16384 then BadLine (seen.lines + 1) causes.Long
    else next_from seen (line ++ b ∷ []) (count + 1) bs))

abbrev pub is_line_begun : List ℕ → Bool
is_line_begun [] = false
is_line_begun (b ∷ bs) = true

-- what a stream that ends behind this line so far is
abbrev pub ending_at : Seen → List ℕ → Ending
ending_at seen line =
    if is_line_begun line then endings.BadLine (seen.lines + 1) causes.Unended
    else (if is_none seen.abi then endings.BadLine (seen.lines + 1) causes.Header
    else Whole)

abbrev pub script_told : ℕ → Told → (Seen → ScriptText) → ScriptText
script_told number (Passed after) go = go after
script_told number (Says line after) go = with_record line (go after)
script_told number (Bad cause) go = ends (endings.BadLine number cause)

-- the script of the bytes from a place on
unfoldable pub script_from : Seen → List ℕ → ℕ → List ℕ → ScriptText
script_from seen line count [] = ends (ending_at seen line)
script_from seen line count (b ∷ bs) =
    if nat_le limit count then ends endings.TooLarge
    else (if b == 10 then script_told (seen.lines + 1) (line_told seen line) (λ after. script_from after [] (count + 1) bs)
    else (if length line == 16384 then ends (endings.BadLine (seen.lines + 1) causes.Long)
    else script_from seen (line ++ b ∷ []) (count + 1) bs))

-- the script of all bytes
unfoldable pub script_of : List ℕ → ScriptText
script_of bytes = script_from new_seen [] 0 bytes

-- the script of the bytes from a place on, by what comes first in them
abbrev pub script_by : Next → ScriptText
script_by (Given line seen count rest) = with_record line (script_from seen [] count rest)
script_by (BadLine line cause) = ends (endings.BadLine line cause)
script_by TooLarge = ends endings.TooLarge
script_by (AtEnd seen line count) = ends (ending_at seen line)

-- what comes first where further bytes follow
abbrev pub next_with : Next → List ℕ → Next
next_with (Given line seen count rest) more = Given line seen count (rest ++ more)
next_with (BadLine line cause) more = BadLine line cause
next_with TooLarge more = TooLarge
next_with (AtEnd seen line count) more = next_from seen line count more
