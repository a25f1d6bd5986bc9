use Rattle.std.proofs.Common.{sym, ◌∙◌}
use Rattle.open_files.proofs.Holdings.{first_names, later_names}
use Rattle.open_files.proofs.state.OpenFiles.names.Goals as goal

pub returns-then-descriptor-serial : goal.returns-then-descriptor-serial
returns-then-descriptor-serial c = sym (first_names _ _ _ _ _ c.in-Some.ensures.entry c.if-descriptor-serial.true) ∙ c.loop-number.invariant

pub loop-number-preserved : goal.loop-number-preserved
loop-number-preserved c = later_names _ _ _ _ _ c.in-Some.ensures.entry c.if-descriptor-serial.false ∙ c.loop-number.invariant
