use Rattle.std.proofs.Common.{ap, ◌∙◌}
use Rattle.user_memory.proofs.Calls.{next_of, readable_of}
use Rattle.user_memory.specs.States.{states_of}
use Rattle.user_memory.proofs.memory.UserMemory.next_change.Goals as goal

pub returns-clause-next : goal.returns-clause-next
returns-clause-next c = next_of c.next_change.result (states_of c.deref.result.now) c.args.self.now c.args.from (ap states_of c.deref.ensures.value ∙ c.self.view_is) c.next_change.ensures

pub returns-clause-readable : goal.returns-clause-readable
returns-clause-readable c = readable_of c.next_change.result (states_of c.deref.result.now) c.args.self.now c.args.from (ap states_of c.deref.ensures.value ∙ c.self.view_is) c.next_change.ensures
