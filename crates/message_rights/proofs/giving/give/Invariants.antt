-- what is left to give is given behind what was given
use Rattle.std.proofs.Common.{◌≡◌, ◌≤◌, length}
use Rattle.message_rights.specs.Giving.{given}
use Rattle.message_rights.proofs.Givings.{behind}
use Rattle.message_rights.proofs.giving.give.Given as goal

abbrev pub invariant-loop-serial : goal.invariant-loop-serial
invariant-loop-serial l = record {
  same : behind l.numbers (given l.room l.limit l.cloexec l.open_files l.left) ≡ given l.initial.room l.limit l.cloexec l.initial.open_files l.initial.left;
  fewer : length l.left ≤ length l.initial.left;
  sockets : l.open_files.sockets ≡ l.initial.open_files.sockets;
}

abbrev pub decreases-loop-serial : goal.decreases-loop-serial
decreases-loop-serial l = l.room
