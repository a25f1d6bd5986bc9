-- what is left gives the rest of what all give
use Rattle.std.proofs.Common.{◌≡◌, ◌+◌, ◌≤◌, length, take}
use Rattle.socket_queues.specs.Taking.{plain_taken, with_front}
use Rattle.socket_queues.proofs.stream.take_plain.Given as goal

abbrev pub invariant-loop-at : goal.invariant-loop-at
invariant-loop-at l = record {
  same : with_front (take l.at.moved l.into) (plain_taken l.at.wanted l.messages.items) ≡ plain_taken l.wanted l.initial.messages.items;
  within : l.at.moved ≤ length l.into;
  size : length l.into ≡ length (plain_taken l.wanted l.initial.messages.items).bytes;
}

abbrev pub decreases-loop-at : goal.decreases-loop-at
decreases-loop-at l = l.at.wanted + length l.messages.items
