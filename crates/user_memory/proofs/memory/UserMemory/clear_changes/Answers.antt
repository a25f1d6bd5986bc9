use Rattle.std.proofs.Common.{arith}
use Rattle.user_memory.proofs.Kept.{kept_clear}
use Rattle.user_memory.proofs.memory.UserMemory.clear_changes.Goals as goal

pub invariant_of-self : goal.invariant_of-self
invariant_of-self c = kept_clear c.self.inside.pages c.clear_stored.new.pages c.deref_mut.result.now c.self.inside.first c.self.inside.past 16384 (omega arith) c.deref_mut.ensures.value c.clear_stored.ensures.states c.clear_stored.ensures.stores c.self.invariant
