use Rattle.joined_laws.proofs.Trees as trees
use Rattle.joined_laws.proofs.sound_trees_are_whole.Goals as goal

pub returns : goal.returns
returns c = trees.sound_trees_are_whole
