use Rattle.std.proofs.Common.{◌∙◌, ℕ, ap, sym, arith, refl, take, List}
use Rattle.std.specs.Prelude.{Option, Some}
use Rattle.std.specs.Borrow.{Bor}
use Rattle.std.specs.Option.{option_map}
use Rattle.std.proofs.lemmas.List.{length-set}
use Rattle.script_reader.specs.Fields.{word, fields_in}
use Rattle.script_reader.proofs.LoopSteps.{fields_go, fields_stop, fields_short, fields_long, fields_done}
use Rattle.script_reader.proofs.fields.words_in.Goals as goal

abbrev seen : Option (Bor (List ℕ)) → Option (List ℕ)
seen o = option_map (λ r. r.now) o

pub returns-in_default : goal.returns-in_default
returns-in_default g c = fields_short word g.row.N c.loop-i.i (take c.loop-i.i c.loop-i.words) (seen c.loop-i.left) (fields_in word g.row.N (Some c.args.rest.now)) (omega arith) (ap seen c.in_default.is) c.loop-i.invariant.so_far

pub returns-in_default-word_in : goal.returns-in_default-word_in
returns-in_default-word_in g c = fields_stop word g.row.N c.loop-i.i (take c.loop-i.i c.loop-i.words) c.in-Some.line.now (seen c.loop-i.left) (fields_in word g.row.N (Some c.args.rest.now)) (omega arith) (ap seen c.in-Some.is) (ap word (sym c.cut_field.ensures.first) ∙ sym c.in_default-word_in.ensures) c.loop-i.invariant.so_far

pub loop-i-preserved : goal.loop-i-preserved
loop-i-preserved g c = record {
  size = omega (arith, length-set {A = ℕ});
  so_far = fields_go word g.row.N c.loop-i.i c.in-Some-word_in.word c.in-Some-word_in.word c.loop-i.words c.in-Some.line.now (seen c.loop-i.left) (seen c.cut_field.result.1) (fields_in word g.row.N (Some c.args.rest.now)) (omega arith) (omega arith) (ap seen c.in-Some.is) (ap word (sym c.cut_field.ensures.first) ∙ sym c.in-Some-word_in.ensures) c.cut_field.ensures.rest refl c.loop-i.invariant.so_far;
}

pub returns-in-Some-left : goal.returns-in-Some-left
returns-in-Some-left g c = fields_long word g.row.N c.loop-i.i (take c.loop-i.i c.loop-i.words) c.in-Some-left.field-0.now (seen c.loop-i.left) (fields_in word g.row.N (Some c.args.rest.now)) (omega arith) (ap seen c.in-Some-left.is) c.loop-i.invariant.so_far

pub returns-in-None : goal.returns-in-None
returns-in-None g c = fields_done word g.row.N c.loop-i.i c.loop-i.words (seen c.loop-i.left) (fields_in word g.row.N (Some c.args.rest.now)) (omega arith) (omega arith) (ap seen c.in-None.is) c.loop-i.invariant.so_far
