use Rattle.tree_laws.proofs.LawsRemoving as laws
use Rattle.tree_laws.proofs.renamed_tree_stays_sound.Goals as goal

pub returns : goal.returns
returns c = laws.renamed_tree_stays_sound
