use Rattle.std.proofs.Common.{◌≡◌, IsTrue, drop}
use Rattle.std.specs.List.{list_all}
use Rattle.call_tables.specs.Rows.{fits, lines_seen, row_in}
use Rattle.call_tables.proofs.find.row_among.Given as goal

abbrev pub invariant-loop-table : goal.invariant-loop-table
invariant-loop-table l =
    IsTrue (list_all (λ t. list_all fits t.now) (drop l.table-index l.tables))
    × (row_in l.abi l.number (lines_seen l.tables) ≡ row_in l.abi l.number (lines_seen (drop l.table-index l.tables)))
