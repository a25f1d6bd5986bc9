-- What a reader has taken of its source, turn by turn.
use Rattle.std.proofs.Common.{◌≡◌, ℕ, ◌+◌, false, List, [], ◌++◌, length, take, drop, refl, sym, ap, ◌∙◌, append_assoc, add-zero, ◌^◌, ◌≤◌, arith}
use Rattle.std.specs.Prelude.{Option, Some, None, Result, Ok, Err}
use Rattle.std.proofs.lemmas.List.{append-nil, take_at, drop_at, length-append}
use Rattle.io_edge.specs.Told.{put_back}
use Rattle.script_reader.specs.declared.seen.Seen.{Seen}
use Rattle.script_reader.specs.declared.fault.LineCause.{LineCause}
use Rattle.script_reader.specs.declared.fault.ScriptFault.{ScriptFault}
use Rattle.script_reader.specs.declared.fault.ScriptFault.TheVariants as faults
use Rattle.script_reader.specs.declared.record.Record.{Record}
use Rattle.script_reader.specs.Ahead.{TakesPiece, IsReadFault}
use Rattle.script_reader.specs.Ending.{ScriptText, ends}
use Rattle.script_reader.specs.Ending as endings
use Rattle.script_reader.specs.Script.{Next, Given, BadLine, TooLarge, AtEnd, next_from, next_with, ending_at, script_from, script_by}
use Rattle.script_reader.specs.Reads.{ScriptState, next_in, script_left, IsBadIn, Answers, TakesFew, IsFound, IsNextOf}
use Rattle.script_reader.proofs.ScriptLaws.{next_from-append, script_from-next}

-- A piece was taken, and what comes first in the bytes before it and in it is `now`. With it `all` bytes were taken.
pub record HasTaken (before after : Option (List ℕ)) (seen : Seen) (count : ℕ) (bytes : List ℕ) (all : ℕ) (now : Next) : Type 0 where
  pub piece : List ℕ
  pub taken : before ≡ put_back piece after
  pub size : all ≡ count + length bytes + length piece
  pub next : next_from seen [] count (bytes ++ piece) ≡ now

-- the source is as it was, and what comes first is still the same
pub record IsUnread {A : Type 0} (before after : A) (first now : Next) : Type 0 where
  pub same : after ≡ before
  pub next : now ≡ first

put_back_none : (left : Option (List ℕ)) → left ≡ put_back [] left
put_back_none None = refl
put_back_none (Some bytes) = refl

put_back_twice : (left : Option (List ℕ)) (a b : List ℕ) → put_back a (put_back b left) ≡ put_back (a ++ b) left
put_back_twice None a b = refl
put_back_twice (Some bytes) a b = ap (λ (xs : List ℕ). Some xs) (sym (append_assoc a b bytes))

pub taken_none : (left : Option (List ℕ)) (seen : Seen) (count : ℕ) (bytes : List ℕ) → HasTaken left left seen count bytes (count + length bytes) (next_from seen (take 0 bytes) (count + 0) (drop 0 bytes))
taken_none left seen count bytes = record {
  piece = [];
  taken = put_back_none left;
  size = omega arith;
  next = rw (append-nil bytes, add-zero count) refl;
}

pub taken_then : (before after : Option (List ℕ)) (seen : Seen) (count : ℕ) (bytes : List ℕ) (all then_all : ℕ) (now then : Next) → HasTaken before after seen count bytes all now → then_all ≡ all → now ≡ then → HasTaken before after seen count bytes then_all then
taken_then before after seen count bytes all then_all now then h same e = record {
  piece = h.piece;
  taken = h.taken;
  size = same ∙ h.size;
  next = h.next ∙ e;
}

-- a further piece, where what was there had come to its end
pub taken_more : (before mid after : Option (List ℕ)) (seen : Seen) (count : ℕ) (bytes : List ℕ) (all : ℕ) (seen' : Seen) (line piece : List ℕ) (count' : ℕ) → HasTaken before mid seen count bytes all (AtEnd seen' line count') → mid ≡ put_back piece after
    → HasTaken before after seen count bytes (all + length piece) (next_from seen' line count' piece)
taken_more before mid after seen count bytes all seen' line piece count' h e = record {
  piece = h.piece ++ piece;
  taken = h.taken ∙ ap (put_back h.piece) e ∙ put_back_twice after h.piece piece;
  size = omega (arith, h.size, length-append h.piece piece);
  next = ap (next_from seen [] count) (sym (append_assoc bytes h.piece piece)) ∙ next_from-append (bytes ++ h.piece) piece seen [] count ∙ ap (λ (n : Next). next_with n piece) h.next;
}

-- a read behind bytes that came to their end
pub taken_read : (before mid after : Option (List ℕ)) (seen : Seen) (count : ℕ) (bytes : List ℕ) (seen' : Seen) (old new : List ℕ) (from count' n : ℕ)
    → HasTaken before mid seen count bytes (count' + length old) (next_from seen' (take from old) (count' + from) (drop from old)) → next_from seen' (take from old) (count' + from) (drop from old) ≡ AtEnd seen' old (count' + length old) → TakesPiece mid after old new n
    → HasTaken before after seen count bytes (count' + length new) (next_from seen' (take (length old) new) (count' + length old) (drop (length old) new))
taken_read before mid after seen count bytes seen' old new from count' n h e p =
    let all = count' + length old in
    let now = next_from seen' (take from old) (count' + from) (drop from old) in
    let ended = taken_then before mid seen count bytes all all now (AtEnd seen' old all) h refl e in
    let more = taken_more before mid after seen count bytes all seen' old p.0 all ended p.3 in
    let size : count' + length (old ++ p.0) ≡ all + length p.0 = omega (arith, length-append old p.0) in
    rw (p.1, take_at old p.0 (length old) refl, drop_at old p.0 (length old) refl)
    (taken_then before after seen count bytes (all + length p.0) (count' + length (old ++ p.0)) (next_from seen' old all p.0) (next_from seen' old all p.0) more size refl)

-- what a read that failed may have taken
abbrev pub Lost : Option (List ℕ) → Option (List ℕ) → ℕ → Type 0
Lost before after all = (piece : List ℕ) × (before ≡ put_back piece after) × (all + length piece ≤ 2 ^ 28 + 1)

lost_few : (before mid : Option (List ℕ)) (seen : Seen) (count : ℕ) (bytes : List ℕ) (all : ℕ) (now : Next) (fault : ScriptFault) (piece : List ℕ) (kept : ℕ) → (h : HasTaken before mid seen count bytes all now) → all + length piece ≤ 2 ^ 28 + 1
    → TakesFew (count + length bytes) (length (h.piece ++ piece)) (Err fault) kept
lost_few before mid seen count bytes all now fault piece kept h most = record {
  most = omega (arith, h.size, most, length-append h.piece piece);
  kept = tt;
}

-- a read that failed may have taken bytes too
pub taken_lost : (before mid after : Option (List ℕ)) (seen : Seen) (count : ℕ) (bytes : List ℕ) (all : ℕ) (now : Next) (fault : ScriptFault) (old new : ℕ) (state : ScriptState) (kept : ℕ) → HasTaken before mid seen count bytes all now → Lost mid after all
    → IsReadFault fault old new → state.alive ≡ false → (piece : List ℕ) × (before ≡ put_back piece after) × Answers (next_from seen [] count (bytes ++ piece)) after (Err fault) state × TakesFew (count + length bytes) (length piece) (Err fault) kept
taken_lost before mid after seen count bytes all now (faults.BadLine line cause) old new state kept h lost f e = absurd f
taken_lost before mid after seen count bytes all now faults.ReadFault old new state kept h lost f e =
    (h.piece ++ lost.0, h.taken ∙ ap (put_back h.piece) lost.1 ∙ put_back_twice after h.piece lost.0, e, lost_few before mid seen count bytes all now faults.ReadFault lost.0 kept h lost.2)
taken_lost before mid after seen count bytes all now faults.TooLarge old new state kept h lost f e = absurd f
taken_lost before mid after seen count bytes all now faults.OutOfMemory old new state kept h lost f e =
    (h.piece ++ lost.0, h.taken ∙ ap (put_back h.piece) lost.1 ∙ put_back_twice after h.piece lost.0, e, lost_few before mid seen count bytes all now faults.OutOfMemory lost.0 kept h lost.2)

-- where something was found, the bytes didn't come to their end
pub found_no_end : (first now : Next) (seen : Seen) (line : List ℕ) (count : ℕ) → IsFound first → now ≡ first → now ≡ AtEnd seen line count → ⊥
found_no_end (Given l s n rest) now seen line count found e f = cc
found_no_end (BadLine n cause) now seen line count found e f = cc
found_no_end TooLarge now seen line count found e f = cc
found_no_end (AtEnd s l n) now seen line count found e f = absurd found

-- what was left of a script, by what comes first in what a call had and took
left_by : (old : ScriptState) (piece rest : List ℕ) → script_left old (piece ++ rest) ≡ script_by (next_with (next_in old piece) rest)
left_by old piece rest =
    ap (script_from old.seen [] old.count) (sym (append_assoc old.ahead piece rest)) ∙ script_from-next ((old.ahead ++ piece) ++ rest) old.seen [] old.count ∙ ap script_by (next_from-append (old.ahead ++ piece) rest old.seen [] old.count)

end_by : (seen : Seen) (line : List ℕ) (count : ℕ) (rest : List ℕ) → rest ≡ [] → script_by (next_from seen line count rest) ≡ ends (ending_at seen line)
unfolding next_from
end_by seen line count rest e = rw e refl

bad_by : (next : Next) (rest : List ℕ) (number : ℕ) (cause : LineCause) → IsBadIn next (Some rest) number cause → script_by (next_with next rest) ≡ ends (endings.BadLine number cause)
bad_by (Given line seen count behind) rest number cause h = absurd h
bad_by (BadLine n c) rest number cause h = rw (h.0, h.1) refl
bad_by TooLarge rest number cause h = absurd h
bad_by (AtEnd seen line count) rest number cause h = end_by seen line count rest h.0 ∙ ap ends h.1

told_by_rest : (text : ScriptText) (next : Next) (rest : List ℕ) (answer : Result (Option Record) ScriptFault) (after : ScriptState) → text ≡ script_by (next_with next rest) → Answers next (Some rest) answer after → IsNextOf text (Some rest) answer after
told_by_rest text next rest (Ok (Some r)) after e h = (rest, refl, e ∙ ap (λ (n : Next). script_by (next_with n rest)) h.0)
told_by_rest text next rest (Ok None) after e h = (ap (λ (xs : List ℕ). Some xs) h.3, e ∙ ap (λ (n : Next). script_by (next_with n rest)) h.0 ∙ end_by after.seen [] after.count rest h.3 ∙ ap ends h.2)
told_by_rest text next rest (Err (faults.BadLine line cause)) after e h = e ∙ bad_by next rest line cause h.0
told_by_rest text next rest (Err faults.TooLarge) after e h = e ∙ ap (λ (n : Next). script_by (next_with n rest)) h.0
told_by_rest text next rest (Err faults.ReadFault) after e h = tt
told_by_rest text next rest (Err faults.OutOfMemory) after e h = tt

abbrev some : List ℕ → Option (List ℕ)
some xs = Some xs

abbrev none : Option (List ℕ)
none = None

no_some : (xs : List ℕ) → some xs ≡ none → ⊥
no_some xs e = cc

same_some : (xs ys : List ℕ) → some xs ≡ some ys → xs ≡ ys
same_some xs ys e = cc

-- where the source tells its bytes, the answer is the next of what was left of the script
pub told_next : (after : Option (List ℕ)) (old : ScriptState) (before : Option (List ℕ)) (answer : Result (Option Record) ScriptFault) (new : ScriptState) (piece bytes : List ℕ) → before ≡ put_back piece after → Answers (next_in old piece) after answer new
    → before ≡ Some bytes → IsNextOf (script_left old bytes) after answer new
told_next None old before answer new piece bytes taken h e = absurd (no_some bytes (sym e ∙ taken))
told_next (Some rest) old before answer new piece bytes taken h e =
    told_by_rest (script_left old bytes) (next_in old piece) rest answer new (ap (script_left old) (same_some bytes (piece ++ rest) (sym e ∙ taken)) ∙ left_by old piece rest) h
