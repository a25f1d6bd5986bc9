use Rattle.std.proofs.Common.{sym, ◌∙◌}
use Rattle.open_files.proofs.Holdings.{first_reads, later_reads}
use Rattle.open_files.proofs.state.OpenFiles.has_reader.Goals as goal

pub returns-then-reads_pipe : goal.returns-then-reads_pipe
returns-then-reads_pipe c = sym (first_reads _ _ _ _ _ c.in-Some.ensures.entry (sym c.reads_pipe.ensures ∙ c.if-reads_pipe.true)) ∙ c.loop-serial.invariant

pub loop-serial-preserved : goal.loop-serial-preserved
loop-serial-preserved c = later_reads _ _ _ _ _ c.in-Some.ensures.entry (sym c.reads_pipe.ensures ∙ c.if-reads_pipe.false) ∙ c.loop-serial.invariant
