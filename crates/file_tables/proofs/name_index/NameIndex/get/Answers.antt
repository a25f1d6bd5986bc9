use Rattle.std.proofs.Common.{◌∙◌}
use Rattle.file_tables.proofs.NameEntries.{position_found}
use Rattle.file_tables.proofs.name_index.NameIndex.get.Goals as goal

pub returns : goal.returns
returns c = rw (← c.self.view_is) (c.copied.ensures ∙ (c.get.ensures.value ∙ position_found (λ k. k.items) c.args.name.now c.self.inside.map.entries))
