-- What is left of a script after each call of its reader.
use Rattle.std.proofs.Common.{◌≡◌, ℕ, ◌+◌, List, [], ◌++◌, length, refl, sym, ap, ◌∙◌, append_assoc, arith}
use Rattle.std.proofs.lemmas.List.{length-append}
use Rattle.std.specs.Prelude.{Option, Some, None, Result, Ok}
use Rattle.io_edge.specs.Told.{put_back, IsAtEnd}
use Rattle.script_reader.specs.declared.fault.LineCause.{LineCause}
use Rattle.script_reader.specs.declared.seen.Seen.{Seen}
use Rattle.script_reader.specs.Grammar.{Line}
use Rattle.script_reader.specs.Ending.{Ending, Whole, ScriptText, ends, with_record}
use Rattle.script_reader.specs.Ending as endings
use Rattle.script_reader.specs.Script.{Next, Given, BadLine, TooLarge, AtEnd, next_from, next_with, ending_at, script_of, script_from, script_by}
use Rattle.script_reader.specs.declared.fault.ScriptFault.{ScriptFault}
use Rattle.script_reader.specs.declared.record.Record.{Record}
use Rattle.script_reader.specs.Reads.{ScriptState, new_script, next_in, script_left, read_count, TakesFew, IsBadIn}
use Rattle.script_reader.specs.Reads as reads
use Rattle.script_reader.proofs.ScriptLaws.{next_from-append, script_from-next}
use Rattle.replay_command.specs.Run.{Outcome}
use Rattle.replay_command.specs.Answers.{IsInput, IsRead}

-- what is left of a script, by what comes first in what a call had and took
left_by : (old : ScriptState) (piece more : List ℕ) → script_left old (piece ++ more) ≡ script_by (next_with (next_in old piece) more)
left_by old piece more =
    ap (script_from old.seen [] old.count) (sym (append_assoc old.ahead piece more)) ∙ script_from-next ((old.ahead ++ piece) ++ more) old.seen [] old.count ∙ ap script_by (next_from-append (old.ahead ++ piece) more old.seen [] old.count)

put_back_none : (left : Option (List ℕ)) → left ≡ put_back [] left
put_back_none None = refl
put_back_none (Some bytes) = refl

put_back_twice : (left : Option (List ℕ)) (a b : List ℕ) → put_back a (put_back b left) ≡ put_back (a ++ b) left
put_back_twice None a b = refl
put_back_twice (Some bytes) a b = ap (λ (xs : List ℕ). Some xs) (sym (append_assoc a b bytes))

-- A piece was taken of the source. Whatever follows it, what is made of the script that is left is what the whole gives.
pub record HasTaken (before after : Option (List ℕ)) (script : ScriptState) (from : ScriptText → Outcome) (whole : List ℕ → Outcome) : Type 0 where
  pub piece : List ℕ
  pub taken : before ≡ put_back piece after
  pub size : length piece ≡ read_count script
  pub so_far : (more : List ℕ) → from (script_left script more) ≡ whole (piece ++ more)

pub taken_none : (left : Option (List ℕ)) (script : ScriptState) (from : ScriptText → Outcome) (whole : List ℕ → Outcome) → script ≡ new_script → ((bytes : List ℕ) → from (script_of bytes) ≡ whole bytes) → HasTaken left left script from whole
unfolding script_of
taken_none left script from whole e h = record {
  piece = [];
  taken = put_back_none left;
  size = rw e refl;
  so_far = λ more. rw e (h more);
}

pub read_none : (before after : Option (List ℕ)) → after ≡ before → IsRead before after
read_none before after e = ([], put_back_none before ∙ ap (put_back []) (sym e), omega arith)

-- one call more
pub read_more : (before mid after : Option (List ℕ)) (script : ScriptState) (from : ScriptText → Outcome) (whole : List ℕ → Outcome) (piece : List ℕ) (answer : Result (Option Record) ScriptFault) (count : ℕ) → HasTaken before mid script from whole → mid ≡ put_back piece after
    → TakesFew (read_count script) (length piece) answer count → IsRead before after
read_more before mid after script from whole piece answer count h e few = (h.piece ++ piece, h.taken ∙ ap (put_back h.piece) e ∙ put_back_twice after h.piece piece, omega (arith, length-append h.piece piece, h.size, few.most))

-- a call that gave a record
pub taken_record : (before mid after : Option (List ℕ)) (old new : ScriptState) (line : Line) (from then : ScriptText → Outcome) (whole : List ℕ → Outcome) (piece : List ℕ) → HasTaken before mid old from whole → mid ≡ put_back piece after
    → next_in old piece ≡ Given line new.seen new.count new.ahead → read_count new ≡ read_count old + length piece → ((text : ScriptText) → from (with_record line text) ≡ then text) → HasTaken before after new then whole
taken_record before mid after old new line from then whole piece h e given size turn = record {
  piece = h.piece ++ piece;
  taken = h.taken ∙ ap (put_back h.piece) e ∙ put_back_twice after h.piece piece;
  size = omega (arith, length-append h.piece piece, h.size, size);
  so_far = λ more.
      let left : script_left old (piece ++ more) ≡ with_record line (script_left new more) = left_by old piece more ∙ ap (λ (n : Next). script_by (next_with n more)) given in
      sym (turn (script_left new more)) ∙ ap from (sym left) ∙ h.so_far (piece ++ more) ∙ ap whole (sym (append_assoc h.piece piece more));
}

-- what a source tells that it has left
pub rest_of : Option (List ℕ) → List ℕ
rest_of None = []
rest_of (Some rest) = rest

abbrev some : List ℕ → Option (List ℕ)
some xs = Some xs

abbrev none : Option (List ℕ)
none = None

no_some : (xs : List ℕ) → some xs ≡ none → ⊥
no_some xs e = cc

same_some : (xs ys : List ℕ) → some xs ≡ some ys → xs ≡ ys
same_some xs ys e = cc

input_whole : (before after : Option (List ℕ)) (taken : List ℕ) → before ≡ put_back taken after → IsInput before (taken ++ rest_of after)
unfolding rest_of
input_whole None after taken e = tt
input_whole (Some all) None taken e = absurd (no_some all e)
input_whole (Some all) (Some rest) taken e = sym (same_some all (taken ++ rest) e)

-- the last call: what is made of its ending is what the whole gives
pub taken_end : (before mid after : Option (List ℕ)) (old : ScriptState) (from : ScriptText → Outcome) (whole : List ℕ → Outcome) (piece : List ℕ) (ending : Ending) → HasTaken before mid old from whole → mid ≡ put_back piece after
    → script_by (next_with (next_in old piece) (rest_of after)) ≡ ends ending → (bytes : List ℕ) × IsInput before bytes × (from (ends ending) ≡ whole bytes)
taken_end before mid after old from whole piece ending h e last =
    let taken : before ≡ put_back (h.piece ++ piece) after = h.taken ∙ ap (put_back h.piece) e ∙ put_back_twice after h.piece piece in
    let rest = rest_of after in
    ((h.piece ++ piece) ++ rest, input_whole before after (h.piece ++ piece) taken, ap from (sym (left_by old piece rest ∙ last)) ∙ h.so_far (piece ++ rest) ∙ ap whole (sym (append_assoc h.piece piece rest)))

at_rest : (left : Option (List ℕ)) → IsAtEnd left → rest_of left ≡ []
unfolding rest_of
at_rest None e = refl
at_rest (Some rest) e = e

end_by : (seen : Seen) (line : List ℕ) (count : ℕ) (rest : List ℕ) → rest ≡ [] → script_by (next_from seen line count rest) ≡ ends (ending_at seen line)
unfolding next_from
end_by seen line count rest e = rw e refl

pub whole_by : (next : Next) (after : Option (List ℕ)) (new : ScriptState) → reads.Answers next after (Ok None) new → script_by (next_with next (rest_of after)) ≡ ends Whole
whole_by next after new h = ap (λ (n : Next). script_by (next_with n (rest_of after))) h.0 ∙ end_by new.seen [] new.count (rest_of after) (at_rest after h.3) ∙ ap ends h.2

pub bad_by : (next : Next) (after : Option (List ℕ)) (number : ℕ) (cause : LineCause) → IsBadIn next after number cause → script_by (next_with next (rest_of after)) ≡ ends (endings.BadLine number cause)
bad_by (Given line seen count behind) after number cause h = absurd h
bad_by (BadLine n c) after number cause h = rw (h.0, h.1) refl
bad_by TooLarge after number cause h = absurd h
bad_by (AtEnd seen line count) after number cause h = end_by seen line count (rest_of after) (at_rest after h.0) ∙ ap ends h.1

pub large_by : (next : Next) (after : Option (List ℕ)) → next ≡ TooLarge → script_by (next_with next (rest_of after)) ≡ ends endings.TooLarge
large_by next after e = ap (λ (n : Next). script_by (next_with n (rest_of after))) e
