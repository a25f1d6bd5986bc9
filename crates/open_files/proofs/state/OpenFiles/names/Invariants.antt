-- what is left of the descriptors answers for all
use Rattle.std.proofs.Common.{◌≡◌, length}
use Rattle.number_maps.specs.NumberMap.{after}
use Rattle.open_files.specs.Holding.{names}
use Rattle.open_files.proofs.state.OpenFiles.names.Given as goal

abbrev pub invariant-loop-number : goal.invariant-loop-number
invariant-loop-number l = names (after l.self.descriptors l.last) l.serial ≡ names l.self.descriptors l.serial

abbrev pub decreases-loop-number : goal.decreases-loop-number
decreases-loop-number l = length (after l.self.descriptors l.last)
