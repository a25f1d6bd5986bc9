use Rattle.std.proofs.Common.{◌≡◌, ◌-◌, length, take, Some}
use Rattle.std.specs.Option.{option_map}
use Rattle.script_reader.specs.Fields.{word, fields_in}
use Rattle.script_reader.proofs.LoopSteps.{with_front}
use Rattle.script_reader.proofs.fields.words_in.Given as goal

abbrev pub invariant-loop-i : goal.invariant-loop-i
invariant-loop-i g l = record {
  size : length l.words ≡ g.row.N;
  so_far : with_front (take l.i l.words) (fields_in word (g.row.N - l.i) (option_map (λ r. r.now) l.left)) ≡ fields_in word g.row.N (Some l.rest);
}
