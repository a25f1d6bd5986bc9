use Rattle.tree_laws.proofs.LawsRemoving as laws
use Rattle.tree_laws.proofs.unnamed_file_keeps_sound.Goals as goal

pub returns : goal.returns
returns c = laws.unnamed_file_keeps_sound
