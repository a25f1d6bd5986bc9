use Rattle.socket_queues.proofs.Kept as kept
use Rattle.socket_queues.proofs.laws.wanted_bytes_come.Goals as goal

pub returns : goal.returns
returns c = kept.wanted_bytes_come
