-- A whole script.
use Rattle.std.specs.Prelude.{ℕ, List, [], ◌∷◌, ◌++◌}
use Rattle.script_reader.specs.declared.fault.LineCause.{LineCause}
use Rattle.script_reader.specs.Grammar.{Line}

-- how the records of a script end
pub data Ending : Type 0 where
  -- with the stream, as the grammar wants it
  Whole : Ending
  -- before the first bad line
  BadLine : (line : ℕ) (cause : LineCause) → Ending
  -- the stream goes on past the most bytes of a script
  TooLarge : Ending

pub record ScriptText : Type 0 where
  pub records : List Line
  pub ending : Ending

abbrev pub ends : Ending → ScriptText
ends ending = record { records = []; ending = ending }

abbrev pub with_record : Line → ScriptText → ScriptText
with_record line text = record { records = line ∷ text.records; ending = text.ending }

-- records in front of a script
abbrev pub with_records : List Line → ScriptText → ScriptText
with_records lines text = record { records = lines ++ text.records; ending = text.ending }
