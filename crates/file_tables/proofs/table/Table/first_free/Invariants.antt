-- nothing below the number is free
use Rattle.std.proofs.Common.{◌≡◌, ◌-◌}
use Rattle.number_maps.specs.NumberMap.{first_free}
use Rattle.file_tables.proofs.table.Table.first_free.Given as goal

abbrev pub invariant-loop-number : goal.invariant-loop-number
invariant-loop-number g l = first_free l.self l.number (l.limit - l.number) ≡ first_free l.self l.«from» (l.limit - l.«from»)
