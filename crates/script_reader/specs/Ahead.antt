-- Bytes that were read and not looked at to their end.
use Rattle.std.specs.Prelude.{◌≡◌, ℕ, ◌+◌, ◌^◌, ◌<◌, ◌≤◌, ⊤, List, [], ◌++◌, length, take, drop, Option}
use Rattle.io_edge.specs.Told.{Rose, put_back}
use Rattle.script_reader.specs.declared.ahead.Ahead.{Ahead}
use Rattle.script_reader.specs.declared.ahead.Stop.{Stop}
use Rattle.script_reader.specs.declared.ahead.Stop.TheVariants as stops
use Rattle.script_reader.specs.declared.fault.LineCause.TheVariants as causes
use Rattle.script_reader.specs.declared.fault.ScriptFault.{ScriptFault}
use Rattle.script_reader.specs.declared.fault.ScriptFault.TheVariants as faults
use Rattle.script_reader.specs.declared.seen.Seen.{Seen}
use Rattle.script_reader.specs.Seen.{line_told}
use Rattle.script_reader.specs.Script.{Next, BadLine, TooLarge, AtEnd, next_told, next_from}

abbrev pub bytes_of : Ahead → List ℕ
bytes_of ahead = drop ahead.at ahead.buffer.items

-- the front that is done with lies in the buffer and the script, and at most one byte more than a script has was read
pub record IsSound (ahead : Ahead) : Type 0 where
  pub few : ahead.count ≤ 2 ^ 28
  pub inside : ahead.at ≤ length ahead.buffer.items
  pub most : ahead.count + length (bytes_of ahead) ≤ 2 ^ 28 + 1

-- what follows where a search for the end of the line stopped
abbrev pub stopped : Seen → ℕ → List ℕ → Stop → Next
stopped seen count bytes (stops.LineFeed i) = next_told (seen.lines + 1) (line_told seen (take i bytes)) (count + i + 1) (drop (i + 1) bytes) (λ after. next_from after [] (count + i + 1) (drop (i + 1) bytes))
stopped seen count bytes stops.TooLarge = TooLarge
stopped seen count bytes stops.Long = BadLine (seen.lines + 1) causes.Long
stopped seen count bytes stops.End = AtEnd seen bytes (count + length bytes)

-- the line feed lies in the bytes; a search comes to their end only where a script may have more
abbrev pub IsWithin : ℕ → ℕ → Stop → Type 0
IsWithin n count (stops.LineFeed i) = (i < n) × (count + i < 2 ^ 28)
IsWithin n count stops.TooLarge = ⊤
IsWithin n count stops.Long = ⊤
IsWithin n count stops.End = count + n ≤ 2 ^ 28

-- n bytes were taken and stand behind the others
abbrev pub TakesPiece : Option (List ℕ) → Option (List ℕ) → List ℕ → List ℕ → ℕ → Type 0
TakesPiece before after old new n = (piece : List ℕ) × (new ≡ old ++ piece) × (length piece ≡ n) × (before ≡ put_back piece after)

-- why a read ended, with the counts of faults before and after it
abbrev pub IsReadFault : ScriptFault → ℕ → ℕ → Type 0
IsReadFault (faults.BadLine line cause) before after = ⊥
IsReadFault faults.ReadFault before after = (before ≤ after) × Rose before after
IsReadFault faults.TooLarge before after = ⊥
IsReadFault faults.OutOfMemory before after = after ≡ before
