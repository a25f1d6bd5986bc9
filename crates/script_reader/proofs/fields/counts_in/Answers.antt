use Rattle.std.proofs.Common.{◌∙◌, ℕ, ap, sym, arith, rules, refl, take, List, FitsSigned}
use Rattle.std.specs.Int.{w64}
use Rattle.std.proofs.lemmas.Int.{to_z-of_z}
use Rattle.std.specs.Prelude.{Option, Some, ℤ}
use Rattle.std.specs.Borrow.{Bor}
use Rattle.std.specs.Option.{option_map}
use Rattle.std.proofs.lemmas.List.{length-set}
use Rattle.script_reader.specs.Fields.{count, fields_in}
use Rattle.script_reader.proofs.LoopSteps.{fields_go, fields_stop, fields_short, fields_long, fields_done}
use Rattle.script_reader.proofs.fields.counts_in.Goals as goal

abbrev seen : Option (Bor (List ℕ)) → Option (List ℕ)
seen o = option_map (λ r. r.now) o

pub returns-in_default : goal.returns-in_default
returns-in_default g c = fields_short count g.row.N c.loop-i.i (take c.loop-i.i c.loop-i.counts) (seen c.loop-i.left) (fields_in count g.row.N (Some c.args.rest.now)) (omega arith) (ap seen c.in_default.is) c.loop-i.invariant.so_far

pub returns-in_default-count_in : goal.returns-in_default-count_in
returns-in_default-count_in g c = fields_stop count g.row.N c.loop-i.i (take c.loop-i.i c.loop-i.counts) c.in-Some.line.now (seen c.loop-i.left) (fields_in count g.row.N (Some c.args.rest.now)) (omega arith) (ap seen c.in-Some.is) (ap count (sym c.cut_field.ensures.first) ∙ sym c.in_default-count_in.ensures) c.loop-i.invariant.so_far

pub loop-i-preserved : goal.loop-i-preserved
loop-i-preserved g c =
    let fits : FitsSigned w64 c.in-Some-count_in.count = search rules in
    record {
      size = omega (arith, length-set {A = ℤ});
      so_far = simp to_z-of_z (fields_go count g.row.N c.loop-i.i c.in-Some-count_in.count c.in-Some-count_in.count c.loop-i.counts c.in-Some.line.now (seen c.loop-i.left) (seen c.cut_field.result.1) (fields_in count g.row.N (Some c.args.rest.now)) (omega arith) (omega arith) (ap seen c.in-Some.is) (ap count (sym c.cut_field.ensures.first) ∙ sym c.in-Some-count_in.ensures) c.cut_field.ensures.rest refl c.loop-i.invariant.so_far);
    }

pub returns-in-Some-left : goal.returns-in-Some-left
returns-in-Some-left g c = fields_long count g.row.N c.loop-i.i (take c.loop-i.i c.loop-i.counts) c.in-Some-left.field-0.now (seen c.loop-i.left) (fields_in count g.row.N (Some c.args.rest.now)) (omega arith) (ap seen c.in-Some-left.is) c.loop-i.invariant.so_far

pub returns-in-None : goal.returns-in-None
returns-in-None g c = fields_done count g.row.N c.loop-i.i c.loop-i.counts (seen c.loop-i.left) (fields_in count g.row.N (Some c.args.rest.now)) (omega arith) (omega arith) (ap seen c.in-None.is) c.loop-i.invariant.so_far
