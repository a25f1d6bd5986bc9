use Rattle.tree_laws.proofs.LawsRemoving as laws
use Rattle.tree_laws.proofs.removed_directory_keeps_sound.Goals as goal

pub returns : goal.returns
returns c = laws.removed_directory_keeps_sound
