use Rattle.std.proofs.Common.{◌∙◌, sym, arith}
use Rattle.script_reader.proofs.LineSteps.{scan_large, scan_feed, scan_long, scan_go, scan_end}
use Rattle.script_reader.proofs.ahead.line_end.Goals as goal

pub returns-then-count-i-ge-LIMIT-clause-next : goal.returns-then-count-i-ge-LIMIT-clause-next
returns-then-count-i-ge-LIMIT-clause-next c = λ seen. sym (c.loop-i.invariant.so_far seen) ∙ scan_large seen c.args.bytes.now c.loop-i.i 0 c.args.count (omega arith) (omega arith)

pub returns-then-bytes-i-eq10-clause-next : goal.returns-then-bytes-i-eq10-clause-next
returns-then-bytes-i-eq10-clause-next c = λ seen. sym (c.loop-i.invariant.so_far seen) ∙ scan_feed seen c.args.bytes.now c.loop-i.i 0 c.args.count (omega arith) (omega arith) (omega arith)

pub returns-then-i-eq-LINE_LIMIT-clause-next : goal.returns-then-i-eq-LINE_LIMIT-clause-next
returns-then-i-eq-LINE_LIMIT-clause-next c = λ seen. sym (c.loop-i.invariant.so_far seen) ∙ scan_long seen c.args.bytes.now c.loop-i.i 0 c.args.count (omega arith) (omega arith) (λ e. omega arith) (omega arith)

pub loop-i-preserved : goal.loop-i-preserved
loop-i-preserved c = record {
  reach = omega arith;
  so_far = λ seen. sym (scan_go seen c.args.bytes.now c.loop-i.i 0 c.args.count (omega arith) (omega arith) (λ e. omega arith) (λ e. omega arith)) ∙ c.loop-i.invariant.so_far seen;
}

pub returns-clause-next : goal.returns-clause-next
returns-clause-next c = λ seen. sym (c.loop-i.invariant.so_far seen) ∙ scan_end seen c.args.bytes.now c.loop-i.i c.args.count (omega arith)
