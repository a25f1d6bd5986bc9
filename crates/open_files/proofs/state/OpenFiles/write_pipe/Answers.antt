use Rattle.std.proofs.Common.{sym}
use Rattle.open_files.proofs.Pipings.{pipes_give_always, write_kept}
use Rattle.open_files.proofs.state.OpenFiles.write_pipe.Goals as goal

pub returns-in-Current-clause-gives : goal.returns-in-Current-clause-gives
returns-in-Current-clause-gives c = rw (c.in-Current.is, sym c.has_reader-has_reader.ensures) (pipes_give_always _ c.args.self.now c.write.result c.write.new.self _ (write_kept _ _ _ _ _ _) c.write.ensures.gives)
