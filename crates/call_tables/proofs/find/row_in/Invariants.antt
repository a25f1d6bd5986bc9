use Rattle.std.proofs.Common.{◌≡◌, IsTrue, drop, map}
use Rattle.std.specs.List.{list_all}
use Rattle.call_tables.specs.Rows.{fits, line_seen, row_in}
use Rattle.call_tables.proofs.find.row_in.Given as goal

abbrev pub invariant-loop-entry : goal.invariant-loop-entry
invariant-loop-entry l =
    IsTrue (list_all fits (drop l.entry-index l.table))
    × (row_in l.abi l.number (map line_seen l.table) ≡ row_in l.abi l.number (map line_seen (drop l.entry-index l.table)))
