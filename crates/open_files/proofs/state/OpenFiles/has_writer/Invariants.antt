-- what is left of the open files answers for all
use Rattle.std.proofs.Common.{◌≡◌, length}
use Rattle.number_maps.specs.NumberMap.{after}
use Rattle.open_files.specs.Holding.{has_writer}
use Rattle.open_files.proofs.state.OpenFiles.has_writer.Given as goal

abbrev pub invariant-loop-serial : goal.invariant-loop-serial
invariant-loop-serial l = has_writer (after l.self.files l.last) l.inode ≡ has_writer l.self.files l.inode

abbrev pub decreases-loop-serial : goal.decreases-loop-serial
decreases-loop-serial l = length (after l.self.files l.last)
