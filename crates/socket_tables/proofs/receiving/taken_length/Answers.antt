use Rattle.std.proofs.Common.{arith, ◌≤◌}
use Rattle.socket_tables.proofs.Receivings.{stream_within}
use Rattle.socket_tables.proofs.receiving.taken_length.Goals as goal

pub returns-then-is_stream-clause-limit : goal.returns-then-is_stream-clause-limit
returns-then-is_stream-clause-limit c = let most = stream_within c.args.most c.args.socket.now.queue in omega (arith, most, c.stream_length.ensures)
