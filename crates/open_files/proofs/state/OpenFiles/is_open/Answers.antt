use Rattle.std.proofs.Common.{sym, ◌∙◌}
use Rattle.open_files.proofs.Holdings.{first_open, later_open}
use Rattle.open_files.proofs.state.OpenFiles.is_open.Goals as goal

pub returns-then-file-inode : goal.returns-then-file-inode
returns-then-file-inode c = sym (first_open _ _ _ _ _ c.in-Some.ensures.entry c.if-file-inode.true) ∙ c.loop-serial.invariant

pub loop-serial-preserved : goal.loop-serial-preserved
loop-serial-preserved c = later_open _ _ _ _ _ c.in-Some.ensures.entry c.if-file-inode.false ∙ c.loop-serial.invariant
