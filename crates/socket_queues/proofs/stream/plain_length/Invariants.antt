-- what is left gives the rest of what all give
use Rattle.std.proofs.Common.{◌≡◌, ◌+◌, ◌-◌, ◌≤◌, length, drop}
use Rattle.socket_queues.specs.Taking.{plain_taken}
use Rattle.socket_queues.proofs.stream.plain_length.Given as goal

abbrev pub invariant-loop-message : goal.invariant-loop-message
invariant-loop-message l = record {
  rest : (l.wanted - l.left) + length (plain_taken l.left (drop l.index l.messages.items)).bytes ≡ length (plain_taken l.wanted l.messages.items).bytes;
  within : l.left ≤ l.wanted;
  place : l.index ≤ length l.messages.items;
}

abbrev pub decreases-loop-message : goal.decreases-loop-message
decreases-loop-message l = length l.messages.items - l.index
