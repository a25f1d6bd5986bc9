-- the parts so far, and then what is left of the others
use Rattle.std.proofs.Common.{◌≡◌, ◌++◌, length}
use Rattle.record_locks.specs.Own.{unlocked}
use Rattle.record_locks.proofs.own.unlocked.Given as goal

abbrev pub invariant-loop-rest : goal.invariant-loop-rest
invariant-loop-rest l = l.out.items ++ unlocked l.rest l.range ≡ unlocked l.fn.locks l.range

abbrev pub decreases-loop-rest : goal.decreases-loop-rest
decreases-loop-rest l = length l.rest
