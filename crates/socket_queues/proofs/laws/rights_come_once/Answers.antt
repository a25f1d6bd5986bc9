use Rattle.socket_queues.proofs.Kept as kept
use Rattle.socket_queues.proofs.laws.rights_come_once.Goals as goal

pub returns : goal.returns
returns c = kept.rights_come_once
