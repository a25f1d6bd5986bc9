use Rattle.std.proofs.Common.{◌∙◌, sym}
use Rattle.file_tables.proofs.NameSteps.{gone_at, indexed_after_exit, nowhere_else}
use Rattle.file_tables.proofs.name_table.NameTable.vacate.Goals as goal

pub invariant_of-self : goal.invariant_of-self
invariant_of-self c =
    indexed_after_exit c.self.inside.entries c.remove.new.self c.self.inside.positions c.remove-in-Some.new.self c.args.position c.in-Some.entry c.self.invariant (sym c.remove.ensures.value ∙ c.in-Some.is) c.remove.ensures.after (rw c.as_slice.ensures at c.remove-in-Some.ensures.after) c.remove.ensures.ascending c.remove-in-Some.ensures.ascending

pub returns-in-Some-clause-vacant : goal.returns-in-Some-clause-vacant
returns-in-Some-clause-vacant c = gone_at c.self.inside.entries c.remove.new.self c.args.position c.self.invariant.entries_ascend c.remove.ensures.after

pub returns-in-Some-clause-once : goal.returns-in-Some-clause-once
returns-in-Some-clause-once c = rw (← c.self.view_is) (nowhere_else c.self.inside.entries c.remove.new.self c.self.inside.positions c.args.position c.self.invariant c.remove.ensures.after c.remove.ensures.ascending)

pub returns-in_default-clause-once : goal.returns-in_default-clause-once
returns-in_default-clause-once c = rw (← c.self.view_is) (nowhere_else c.self.inside.entries c.remove.new.self c.self.inside.positions c.args.position c.self.invariant c.remove.ensures.after c.remove.ensures.ascending)
