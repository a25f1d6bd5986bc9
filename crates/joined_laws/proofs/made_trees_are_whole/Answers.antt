use Rattle.joined_laws.proofs.Trees as trees
use Rattle.joined_laws.proofs.made_trees_are_whole.Goals as goal

pub returns : goal.returns
returns c = trees.made_trees_are_whole
