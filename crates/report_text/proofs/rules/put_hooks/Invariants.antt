use Rattle.std.proofs.Common.{◌≡◌, ◌++◌, drop}
use Rattle.report_text.specs.Rules.{hooks_text}
use Rattle.report_text.proofs.rules.put_hooks.Given as goal

abbrev pub invariant-loop-hook : goal.invariant-loop-hook
invariant-loop-hook l = l.out.items ++ hooks_text (drop l.hook-index l.hooks) ≡ l.fn.out.items ++ hooks_text l.hooks
