-- the messages that are left add what all add
use Rattle.std.proofs.Common.{◌≡◌, length}
use Rattle.message_rights.specs.Attaching.{with_controls}
use Rattle.message_rights.proofs.attaching.outgoing.Given as goal

abbrev pub invariant-loop-control : goal.invariant-loop-control
invariant-loop-control l = with_controls l.open_files l.own l.privileged l.sent l.left ≡ with_controls l.open_files l.own l.privileged l.initial.sent l.initial.left

abbrev pub decreases-loop-control : goal.decreases-loop-control
decreases-loop-control l = length l.left
