use Rattle.tree_laws.proofs.TreesChanged as trees
use Rattle.tree_laws.proofs.working_keeps_sound.Goals as goal

pub returns : goal.returns
returns c = trees.working_keeps_sound
