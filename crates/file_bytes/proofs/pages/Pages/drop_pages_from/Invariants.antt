-- pages before the first that is dropped stay; each turn drops one
use Rattle.std.proofs.Common.{◌≡◌, ℕ, ◌<◌, length}
use Rattle.number_maps.specs.NumberMap.{at}
use Rattle.file_bytes.proofs.pages.Pages.drop_pages_from.Given as goal

abbrev pub invariant-loop-self : goal.invariant-loop-self
invariant-loop-self l = (q : ℕ) → q < l.first → at l.self.map.entries q ≡ at l.fn.self.map.entries q

abbrev pub decreases-loop-self : goal.decreases-loop-self
decreases-loop-self l = length l.self.map.entries
