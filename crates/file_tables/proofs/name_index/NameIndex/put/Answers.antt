use Rattle.file_tables.proofs.NameEntries.{by_name_with, names_ascend}
use Rattle.file_tables.proofs.name_index.NameIndex.put.Goals as goal
use Rattle.file_tables.proofs.name_index.NameIndex.put.Goals.{in-Ok, in-Err}

pub returns-clause-ok : goal.returns-clause-ok
returns-clause-ok c = elim c.match-insert.branch [
  | in-Ok w ↦ rw w.result-is (rw (← c.self.view_is) (rw w.in-Ok.ensures.entries (by_name_with (λ k. k.items) c.args.name c.args.position c.self.inside.map.entries)))
  | in-Err w ↦ rw w.result-is tt
]

pub returns-clause-ascending : goal.returns-clause-ascending
returns-clause-ascending c = names_ascend (λ k. k.items) _ c.insert.ensures.ordered
