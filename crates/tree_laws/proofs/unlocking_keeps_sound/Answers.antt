use Rattle.tree_laws.proofs.TreesChanged as trees
use Rattle.tree_laws.proofs.unlocking_keeps_sound.Goals as goal

pub returns : goal.returns
returns c = trees.unlocking_keeps_sound
