use Rattle.std.proofs.Common.{arith, ◌++◌}
use Rattle.std.specs.Prelude.{None}
use Rattle.report_text.specs.Rules.{hooks_text}
use Rattle.report_text.proofs.TextSteps.{hooks_go, hooks_end}
use Rattle.report_text.proofs.rules.put_hooks.Goals as goal

pub loop-hook-preserved : goal.loop-hook-preserved
loop-hook-preserved c = hooks_go c.args.hooks.now c.loop-hook.hook-index None c.loop-hook.out.items c.put_hook.new.out.items (c.args.out.now.items ++ hooks_text c.args.hooks.now) (omega arith) c.in_ok-put_hook.ensures c.loop-hook.invariant

pub returns : goal.returns
returns c = hooks_end c.args.hooks.now c.loop-hook.hook-index c.loop-hook.out.items (c.args.out.now.items ++ hooks_text c.args.hooks.now) (omega arith) c.loop-hook.invariant
