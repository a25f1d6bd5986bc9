use Rattle.socket_queues.proofs.Kept as kept
use Rattle.socket_queues.proofs.laws.bytes_come_once.Goals as goal

pub returns : goal.returns
returns c = kept.bytes_come_once
