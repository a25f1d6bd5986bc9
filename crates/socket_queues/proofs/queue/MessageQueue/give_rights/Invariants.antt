-- what was put and what is left
use Rattle.std.proofs.Common.{◌≡◌, ◌+◌, ◌<◌, ◌^◌, ◌++◌, length}
use Rattle.socket_queues.specs.Queues.{rights_in}
use Rattle.socket_queues.proofs.queue.MessageQueue.give_rights.Given as goal

abbrev pub invariant-loop-message : goal.invariant-loop-message
invariant-loop-message l = record {
  same : l.held ++ rights_in l.messages.items ≡ l.initial.held ++ rights_in l.initial.messages.items;
  few : length l.held + length (rights_in l.messages.items) < 2 ^ 63;
}

abbrev pub decreases-loop-message : goal.decreases-loop-message
decreases-loop-message l = length l.messages.items
