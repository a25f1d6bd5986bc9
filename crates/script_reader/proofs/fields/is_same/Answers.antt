use Rattle.std.proofs.Common.{arith, sym, ◌∙◌}
use Rattle.script_reader.proofs.FieldSteps.{same_differs, same_goes_on}
use Rattle.script_reader.proofs.fields.is_same.Goals as goal

pub returns-then-text-i : goal.returns-then-text-i
returns-then-text-i c = sym (same_differs c.args.text.now c.args.other.now c.loop-i.i 0 (omega arith) (omega arith) (λ e. omega arith)) ∙ c.loop-i.invariant

pub loop-i-preserved : goal.loop-i-preserved
loop-i-preserved c = sym (same_goes_on c.args.text.now c.args.other.now c.loop-i.i 0 (omega arith) (omega arith) (omega arith)) ∙ c.loop-i.invariant
