use Rattle.tree_laws.proofs.TreesChanged as trees
use Rattle.tree_laws.proofs.end_keeps_sound.Goals as goal

pub returns : goal.returns
returns c = trees.end_keeps_sound
