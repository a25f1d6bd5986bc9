use Rattle.std.proofs.Common.{arith}
use Rattle.user_memory.proofs.Kept.{kept_store}
use Rattle.user_memory.proofs.Ranges.{with_no_bytes}
use Rattle.user_memory.proofs.memory.UserMemory.store.Goals as goal

pub invariant_of-self : goal.invariant_of-self
invariant_of-self c =
    let new = c.store-past.ensures in
    kept_store c.self.inside.pages c.store-past.new.pages c.deref_mut.result.now c.args.at c.args.from.now c.self.inside.first c.self.inside.past c.in-Some.place c.store-past.result c.min-self-inside.result c.max-self-inside.result
    (omega arith) c.deref_mut.ensures.value new.stored new.stores new.past new.front new.back c.min-self-inside.ensures c.max-self-inside.ensures c.self.invariant

pub returns-then-is_empty-clause-ok : goal.returns-then-is_empty-clause-ok
returns-then-is_empty-clause-ok c = with_no_bytes c.args.from.now c.args.self.now c.args.at (grind (arith, c.if-is_empty.ensures, c.if-is_empty.true))
