use Rattle.std.proofs.Common.{arith}
use Rattle.std.proofs.lemmas.Grind.{common_steps}
use Rattle.call_tables.proofs.Rows.{rows}
use Rattle.call_tables.proofs.find.row_among.Goals as goal

pub loop-table-preserved : goal.loop-table-preserved
loop-table-preserved c = (grind (arith, common_steps), grind (arith, rows))
