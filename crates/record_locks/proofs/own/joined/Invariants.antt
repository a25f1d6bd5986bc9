-- the locks before, and then the lock among those that are left
use Rattle.std.proofs.Common.{◌≡◌, ◌++◌, length}
use Rattle.record_locks.specs.Own.{joined}
use Rattle.record_locks.proofs.own.joined.Given as goal

abbrev pub invariant-loop-rest : goal.invariant-loop-rest
invariant-loop-rest l = l.out.items ++ joined l.new l.rest ≡ joined l.fn.lock l.fn.locks

abbrev pub decreases-loop-rest : goal.decreases-loop-rest
decreases-loop-rest l = length l.rest
