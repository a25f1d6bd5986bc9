use Rattle.number_maps.proofs.Ordered.{first_behind}
use Rattle.file_tables.proofs.name_table.NameTable.line_after.Goals as goal

pub returns-clause-behind : goal.returns-clause-behind
returns-clause-behind c = first_behind _ _ _ _ _ c.in_ok-position.ensures.entry
