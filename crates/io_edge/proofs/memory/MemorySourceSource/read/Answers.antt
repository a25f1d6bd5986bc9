use Rattle.std.proofs.Common.{arith}
use Rattle.io_edge.proofs.Pieces.{some_given}
use Rattle.io_edge.proofs.memory.MemorySourceSource.read.Goals as goal

pub returns-clause-given : goal.returns-clause-given
returns-clause-given c =
    rw (← c.self.view_is) (some_given c.self.inside.bytes.items c.deref-3.result.now c.copy_from_slice.new.self c.args.into.now c.self.inside.at c.given_count-n.result c.copy_from_slice.ensures.after c.deref-3.ensures.value (omega arith))
