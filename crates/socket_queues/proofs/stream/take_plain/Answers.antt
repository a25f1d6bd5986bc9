use Rattle.std.proofs.Common.{rules}
use Rattle.socket_queues.proofs.Fronts.{all_moved, others_left}
use Rattle.socket_queues.proofs.stream.take_plain.Goals as goal

pub returns-clause-bytes : goal.returns-clause-bytes
returns-clause-bytes c = all_moved _ _ _ _ _ (search rules) c.loop-at.invariant.same c.loop-at.invariant.within c.loop-at.invariant.size

pub returns-clause-left : goal.returns-clause-left
returns-clause-left c = others_left _ _ _ _ (search rules) c.loop-at.invariant.same
