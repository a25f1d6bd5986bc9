-- what is left to walk gives what the whole gives
use Rattle.std.proofs.Common.{◌≡◌, [], length}
use Rattle.file_tables.specs.Names.{names_of}
use Rattle.file_tables.specs.Directories.{walk}
use Rattle.file_tables.proofs.walk.Table+Directory.walk.Given as goal

abbrev pub invariant-loop-next : goal.invariant-loop-next
invariant-loop-next l = walk l.self l.place l.name (names_of l.rest) ≡ walk l.fn.self l.fn.start [] (names_of l.fn.path)

abbrev pub decreases-loop-next : goal.decreases-loop-next
decreases-loop-next l = length l.rest
