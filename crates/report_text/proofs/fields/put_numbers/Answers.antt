use Rattle.std.proofs.Common.{arith, ◌++◌}
use Rattle.report_text.specs.Fields.{numbers_text}
use Rattle.report_text.proofs.TextSteps.{numbers_go, numbers_end}
use Rattle.report_text.proofs.fields.put_numbers.Goals as goal

pub loop-number-preserved : goal.loop-number-preserved
loop-number-preserved c = numbers_go c.args.numbers.now c.loop-number.number-index 0 c.loop-number.out.items c.put.new.out.items c.put_hex.new.out.items (c.args.out.now.items ++ numbers_text c.args.numbers.now) (omega arith) c.in_ok-put.ensures c.in_ok-put_hex.ensures c.loop-number.invariant

pub returns : goal.returns
returns c = numbers_end c.args.numbers.now c.loop-number.number-index c.loop-number.out.items (c.args.out.now.items ++ numbers_text c.args.numbers.now) (omega arith) c.loop-number.invariant
