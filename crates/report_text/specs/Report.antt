-- The lines of a report beside those of the state.
use Rattle.std.specs.Prelude.{ℕ, List, [], ◌∷◌, ◌++◌, codes, Option, Some, None}
use Rattle.std.specs.Fmt.{decimal}
use Rattle.hex.specs.Hex.{encode_lower}
use Rattle.kernel_values.specs.declared.process_end.End.{End}
use Rattle.kernel_values.specs.declared.process_end.End.TheVariants as end
use Rattle.report_text.specs.Text.{hex_text, line, word_text, words_text}

-- the line of a call, with all registers afterwards
abbrev pub call_text : ℕ → List ℕ → List ℕ → List ℕ
call_text k name words = codes "call " ++ decimal k ++ codes " " ++ name ++ words_text words ++ 10 ∷ []

-- the line of a run of changed bytes
abbrev pub change_text : ℕ → List ℕ → List ℕ
change_text at bytes = codes "mem " ++ word_text at ++ codes " " ++ encode_lower bytes ++ 10 ∷ []

unfoldable pub changes_text : List (ℕ × List ℕ) → List ℕ
changes_text [] = []
changes_text (run ∷ runs) = change_text run.0 run.1 ++ changes_text runs

-- the line of a call of a process that has ended
abbrev pub gone_text : ℕ → List ℕ
gone_text k = codes "call " ++ decimal k ++ codes " gone" ++ 10 ∷ []

-- the line that tells how the process ended in a call
abbrev pub end_text : Option End → List ℕ
end_text None = []
end_text (Some (end.Exit code)) = codes "exit " ++ hex_text code ++ 10 ∷ []
end_text (Some (end.Signal signal)) = codes "killed " ++ hex_text signal ++ 10 ∷ []

-- the line above those of the state
unfoldable pub state_head : List ℕ
state_head = line (codes "state")

-- the last line of the report of a whole script
unfoldable pub end_line : List ℕ
end_line = line (codes "end")

-- the line that tells a bad line
abbrev pub bad_text : ℕ → List ℕ → List ℕ
bad_text line cause = codes "bad " ++ decimal line ++ codes " " ++ cause ++ 10 ∷ []

-- the line that tells how many records a script has, with its header
abbrev pub ok_text : ℕ → List ℕ
ok_text records = codes "ok " ++ hex_text records ++ 10 ∷ []
