-- The records that all calls so far gave.
use Rattle.std.proofs.Common.{◌≡◌, ℕ, ◌+◌, ◌^◌, ◌≤◌, List, [], ◌∷◌, ◌++◌, length, refl, sym, ap, ◌∙◌, append_assoc, arith}
use Rattle.std.specs.Prelude.{Option, Some, None, Result, Ok, Err}
use Rattle.std.proofs.lemmas.List.{append-nil, length-append}
use Rattle.script_reader.specs.declared.fault.LineCause.{LineCause}
use Rattle.script_reader.specs.declared.fault.ScriptFault.{ScriptFault}
use Rattle.script_reader.specs.declared.fault.ScriptFault.TheVariants as faults
use Rattle.script_reader.specs.declared.record.Record.{Record}
use Rattle.script_reader.specs.Grammar.{Line, line_of}
use Rattle.script_reader.specs.Ending.{Ending, Whole, ScriptText, ends, with_record, with_records}
use Rattle.script_reader.specs.Ending as endings
use Rattle.script_reader.specs.Script.{Next, Given, BadLine, TooLarge, AtEnd, next_from, next_with, script_of, script_from, script_by}
use Rattle.script_reader.specs.Reads.{ScriptState, new_script, next_in, read_count, IsBadIn, Answers, TakesFew, HasGiven, IsScript, GivesBehind}
use Rattle.script_reader.proofs.ScriptLaws.{next_from-append, script_from-next, given_front}

pub given_new : HasGiven new_script []
unfolding script_of
given_new = ([], refl, λ more. refl)

abbrev made : Ending → List Line → ScriptText
made ending lines = record { records = lines; ending = ending }

-- the script of the bytes that have gone by and of further ones, by what comes first in these
goes_on : (s : ScriptState) (lines : List Line) (h : HasGiven s lines) (front more : List ℕ) → script_of ((h.0 ++ front) ++ more) ≡ with_records lines (script_by (next_with (next_from s.seen [] s.count front) more))
goes_on s lines h front more =
    ap script_of (append_assoc h.0 front more) ∙ h.2 (front ++ more) ∙ ap (with_records lines) (script_from-next (front ++ more) s.seen [] s.count ∙ ap script_by (next_from-append front more s.seen [] s.count))

given_record : (s after : ScriptState) (lines : List Line) (line : Line) (bytes : List ℕ) → HasGiven s lines → next_from s.seen [] s.count bytes ≡ Given line after.seen after.count after.ahead → HasGiven after (lines ++ line ∷ [])
given_record s after lines line bytes h e =
    let found = given_front bytes s.seen [] s.count line after.seen after.count after.ahead e in (
      h.0 ++ found.0,
      omega (arith, length-append h.0 found.0, h.1, found.3),
      λ more.
          let rest = script_from after.seen [] after.count more in
          goes_on s lines h found.0 more ∙ ap (λ (n : Next). with_records lines (script_by (next_with n more))) found.2 ∙ ap (made rest.ending) (sym (append_assoc lines (line ∷ []) rest.records)),
    )

-- the bytes end, and with them the script
given_end : (s : ScriptState) (lines : List Line) (bytes : List ℕ) (ending : Ending) → HasGiven s lines → s.count + length bytes ≤ 2 ^ 28 + 1 → script_by (next_from s.seen [] s.count bytes) ≡ ends ending → IsScript lines ending
given_end s lines bytes ending h few e =
    (h.0 ++ bytes, omega (arith, length-append h.0 bytes, h.1, few), h.2 bytes ∙ ap (with_records lines) (script_from-next bytes s.seen [] s.count ∙ e) ∙ ap (made ending) (append-nil lines))

-- lines were passed over
given_passed : (s after : ScriptState) (lines : List Line) (bytes : List ℕ) → HasGiven s lines → next_from s.seen [] s.count bytes ≡ AtEnd after.seen [] after.count → after.count ≡ s.count + length bytes → HasGiven after lines
given_passed s after lines bytes h e size = (
  h.0 ++ bytes,
  omega (arith, length-append h.0 bytes, h.1, size),
  λ more.
      goes_on s lines h bytes more ∙ ap (λ (n : Next). with_records lines (script_by (next_with n more))) e ∙ ap (with_records lines) (sym (script_from-next more after.seen [] after.count)),
)

bad_by : (next : Next) (left : Option (List ℕ)) (number : ℕ) (cause : LineCause) → IsBadIn next left number cause → script_by next ≡ ends (endings.BadLine number cause)
bad_by (Given line seen count behind) left number cause h = absurd h
bad_by (BadLine n c) left number cause h = rw (h.0, h.1) refl
bad_by TooLarge left number cause h = absurd h
bad_by (AtEnd seen line count) left number cause h = ap ends h.1

-- a call behind those that gave these records
pub gives_behind : (s after : ScriptState) (lines : List Line) (piece : List ℕ) (left : Option (List ℕ)) (answer : Result (Option Record) ScriptFault) → HasGiven s lines → Answers (next_in s piece) left answer after
    → TakesFew (read_count s) (length piece) answer (read_count after) → GivesBehind lines answer after
gives_behind s after lines piece left (Ok (Some r)) h told few = given_record s after lines (line_of r) (s.ahead ++ piece) h told.0
gives_behind s after lines piece left (Ok None) h told few =
    let taken : s.count + length (s.ahead ++ piece) ≤ 2 ^ 28 + 1 = omega (arith, length-append s.ahead piece, few.most) in
    let none : length after.ahead ≡ 0 = rw told.1 refl in
    let size : after.count ≡ s.count + length (s.ahead ++ piece) = omega (arith, length-append s.ahead piece, few.kept, none) in
    (given_end s lines (s.ahead ++ piece) Whole h taken (ap script_by told.0 ∙ ap ends told.2), given_passed s after lines (s.ahead ++ piece) h told.0 size)
gives_behind s after lines piece left (Err (faults.BadLine line cause)) h told few =
    let taken : s.count + length (s.ahead ++ piece) ≤ 2 ^ 28 + 1 = omega (arith, length-append s.ahead piece, few.most) in
    given_end s lines (s.ahead ++ piece) (endings.BadLine line cause) h taken (bad_by (next_in s piece) left line cause told.0)
gives_behind s after lines piece left (Err faults.TooLarge) h told few =
    let taken : s.count + length (s.ahead ++ piece) ≤ 2 ^ 28 + 1 = omega (arith, length-append s.ahead piece, few.most) in
    given_end s lines (s.ahead ++ piece) endings.TooLarge h taken (ap script_by told.0)
gives_behind s after lines piece left (Err faults.ReadFault) h told few = tt
gives_behind s after lines piece left (Err faults.OutOfMemory) h told few = tt
