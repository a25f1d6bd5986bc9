-- the links so far and the directories among the names that are left are those of the whole directory
use Rattle.std.proofs.Common.{◌≡◌, ◌≤◌, ◌+◌, ◌-◌, ◌^◌, length}
use Rattle.std.specs.Prelude.{min}
use Rattle.number_maps.specs.NumberMap.{after}
use Rattle.file_tables.specs.Links.{directories_among, directory_links}
use Rattle.file_tables.proofs.links.Table+Directory.directory_links.Given as goal

abbrev pub invariant-loop-position : goal.invariant-loop-position
invariant-loop-position l = record {
  fits : l.links ≤ 2 ^ 32 - 1;
  counted : min (l.links + directories_among l.self (after l.directory.names l.last)) (2 ^ 32 - 1) ≡ directory_links l.self l.directory;
}

abbrev pub decreases-loop-position : goal.decreases-loop-position
decreases-loop-position l = length (after l.directory.names l.last)
