use Rattle.tree_laws.proofs.TreesChanged as trees
use Rattle.tree_laws.proofs.times_keep_sound.Goals as goal

pub returns : goal.returns
returns c = trees.times_keep_sound
