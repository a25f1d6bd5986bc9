use Rattle.std.proofs.Common.{sym, ◌∙◌}
use Rattle.open_files.proofs.Holdings.{first_writes, later_writes}
use Rattle.open_files.proofs.state.OpenFiles.has_writer.Goals as goal

pub returns-then-writes_pipe : goal.returns-then-writes_pipe
returns-then-writes_pipe c = sym (first_writes _ _ _ _ _ c.in-Some.ensures.entry (sym c.writes_pipe.ensures ∙ c.if-writes_pipe.true)) ∙ c.loop-serial.invariant

pub loop-serial-preserved : goal.loop-serial-preserved
loop-serial-preserved c = later_writes _ _ _ _ _ c.in-Some.ensures.entry (sym c.writes_pipe.ensures ∙ c.if-writes_pipe.false) ∙ c.loop-serial.invariant
