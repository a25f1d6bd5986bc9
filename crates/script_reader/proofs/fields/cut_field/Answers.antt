use Rattle.std.proofs.Common.{arith, refl}
use Rattle.script_reader.specs.Fields.{first_field, after_field}
use Rattle.script_reader.proofs.FieldSteps.{field_goes_on, field_stops, field_ends, after_stops, after_goes_on, after_end}
use Rattle.script_reader.proofs.fields.cut_field.Goals as goal

pub returns-then-line-i-eq32-clause-first : goal.returns-then-line-i-eq32-clause-first
returns-then-line-i-eq32-clause-first c = field_stops c.args.line.now c.loop-i.i 0 (first_field c.args.line.now) (omega arith) (omega arith) c.loop-i.invariant.first

pub returns-then-line-i-eq32-clause-rest : goal.returns-then-line-i-eq32-clause-rest
returns-then-line-i-eq32-clause-rest c = after_stops c.args.line.now c.loop-i.i 0 _ (after_field c.args.line.now) (omega arith) (omega arith) refl c.loop-i.invariant.rest

pub loop-i-preserved : goal.loop-i-preserved
loop-i-preserved c = record {
  first = field_goes_on c.args.line.now c.loop-i.i 0 (first_field c.args.line.now) (omega arith) (λ e. omega arith) c.loop-i.invariant.first;
  rest = after_goes_on c.args.line.now c.loop-i.i 0 (after_field c.args.line.now) (omega arith) (λ e. omega arith) c.loop-i.invariant.rest;
}

pub returns-clause-first : goal.returns-clause-first
returns-clause-first c = field_ends c.args.line.now c.loop-i.i (first_field c.args.line.now) (omega arith) c.loop-i.invariant.first

pub returns-clause-rest : goal.returns-clause-rest
returns-clause-rest c = rw (after_end c.args.line.now c.loop-i.i (omega arith)) at c.loop-i.invariant.rest
