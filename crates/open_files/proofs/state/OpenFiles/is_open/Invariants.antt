-- what is left of the open files answers for all
use Rattle.std.proofs.Common.{◌≡◌, length}
use Rattle.number_maps.specs.NumberMap.{after}
use Rattle.open_files.specs.Holding.{is_open}
use Rattle.open_files.proofs.state.OpenFiles.is_open.Given as goal

abbrev pub invariant-loop-serial : goal.invariant-loop-serial
invariant-loop-serial l = is_open (after l.self.files l.last) l.inode ≡ is_open l.self.files l.inode

abbrev pub decreases-loop-serial : goal.decreases-loop-serial
decreases-loop-serial l = length (after l.self.files l.last)
