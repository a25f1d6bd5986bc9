use Rattle.tree_laws.proofs.LawsRuns as laws
use Rattle.tree_laws.proofs.made_trees_are_sound.Goals as goal

pub returns : goal.returns
returns c = laws.made_trees_are_sound
