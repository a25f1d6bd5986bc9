use Rattle.user_memory.proofs.Kept.{none_kept}
use Rattle.user_memory.proofs.memory.UserMemory.new.Goals as goal

pub invariant_of-result : goal.invariant_of-result
invariant_of-result c = rw c.new.ensures.items (none_kept 16384)
