use Rattle.tree_laws.proofs.TreesChanged as trees
use Rattle.tree_laws.proofs.emptied_file_keeps_sound.Goals as goal

pub returns : goal.returns
returns c = trees.emptied_file_keeps_sound
