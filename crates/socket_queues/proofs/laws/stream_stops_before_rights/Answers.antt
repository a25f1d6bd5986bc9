use Rattle.socket_queues.proofs.Kept as kept
use Rattle.socket_queues.proofs.laws.stream_stops_before_rights.Goals as goal

pub returns : goal.returns
returns c = kept.stream_stops
