-- What a command writes ends by itself, and what a sink took of it.
use Rattle.std.proofs.Common.{◌≡◌, ℕ, ◌+◌, List, [], ◌++◌, length, take, refl, sym, ap, ◌∙◌, subst}
use Rattle.std.specs.Prelude.{Option, Some, None}
use Rattle.std.proofs.lemmas.List.{append-nil}
use Rattle.io_edge.specs.Told.{appended}
use Rattle.script_reader.specs.Ending.{Ending, Whole}
use Rattle.script_reader.specs.Ending as endings
use Rattle.script_reader.specs.Script.{script_of}
use Rattle.replay_command.specs.declared.command.Command.{Command}
use Rattle.replay_command.specs.declared.command.Command.TheVariants.{Run, Check}
use Rattle.replay_command.specs.declared.machine.Machine.{Machine}
use Rattle.replay_command.specs.declared.status.Status.{Status}
use Rattle.replay_command.specs.Machine.{start}
use Rattle.replay_command.specs.Run.{text_of, run_end, check_end, output_of, checked_of}
use Rattle.replay_command.specs.Answers.{command_of, answer_by, answer_to, IsEnd, IsInput}
use Rattle.replay_command.specs.Wrote.{WroteFor}

ends_run : (m : Machine) (ending : Ending) → IsEnd (run_end m ending).status
ends_run m Whole = tt
ends_run m (endings.BadLine number cause) = tt
ends_run m endings.TooLarge = tt

ends_check : (k : ℕ) (ending : Ending) → IsEnd (check_end k ending).status
ends_check k Whole = tt
ends_check k (endings.BadLine number cause) = tt
ends_check k endings.TooLarge = tt

ends_answer : (asked : Command) (bytes : List ℕ) → IsEnd (answer_by (Some asked) bytes).status
unfolding output_of checked_of
ends_answer Run bytes = ends_run (text_of start (script_of bytes).records).machine (script_of bytes).ending
ends_answer Check bytes = ends_check (0 + length (script_of bytes).records) (script_of bytes).ending

pub ends_wrote : (asked : Command) (left : Option (List ℕ)) (s : Status) (old new : List ℕ) → WroteFor (answer_by (Some asked)) left s old new → IsEnd s
ends_wrote asked left s old new w = subst (λ (x : Status). IsEnd x) (sym w.2.ended) (ends_answer asked w.0)

-- the sink took a front of what the words write for the bytes
abbrev pub Front : List (List ℕ) → Option (List ℕ) → Option (List ℕ) → Option (List ℕ) → Type 0
Front words left before after = (bytes : List ℕ) × IsInput left bytes × ((n : ℕ) × (after ≡ appended before (take n (answer_to words bytes).text)))

input_of : (left : Option (List ℕ)) → (bytes : List ℕ) × IsInput left bytes
input_of None = ([], tt)
input_of (Some all) = (all, refl)

appended_none : (o : Option (List ℕ)) → appended o [] ≡ o
appended_none None = refl
appended_none (Some bytes) = ap (λ (xs : List ℕ). Some xs) (append-nil bytes)

pub front_none : (words : List (List ℕ)) (left before after : Option (List ℕ)) → after ≡ before → Front words left before after
front_none words left before after e = let any = input_of left in (any.0, any.1, (0, e ∙ sym (appended_none before)))

pub front_told : (words : List (List ℕ)) (asked : Command) (left before after : Option (List ℕ)) (s : Status) (old new : List ℕ) → command_of words ≡ Some asked → old ≡ [] → WroteFor (answer_by (Some asked)) left s old new
    → (n : ℕ) × (after ≡ appended before (take n new)) → Front words left before after
front_told words asked left before after s old new e none w told =
    let text : new ≡ (answer_to words w.0).text = w.2.text ∙ ap (λ (xs : List ℕ). xs ++ (answer_by (Some asked) w.0).text) none ∙ ap (λ (o : Option Command). (answer_by o w.0).text) (sym e) in
    (w.0, w.1, (told.0, told.1 ∙ ap (λ (xs : List ℕ). appended before (take told.0 xs)) text))
