use Rattle.file_tables.proofs.NameEntries.{by_name_without, names_ascend}
use Rattle.file_tables.proofs.name_index.NameIndex.remove.Goals as goal

pub returns-clause-after : goal.returns-clause-after
returns-clause-after c = rw (← c.self.view_is) (rw c.remove-position.ensures.entries (by_name_without (λ k. k.items) c.args.name.now c.self.inside.map.entries))

pub returns-clause-ascending : goal.returns-clause-ascending
returns-clause-ascending c = names_ascend (λ k. k.items) _ c.remove-position.ensures.ordered
