use Rattle.tree_laws.proofs.LawsRemoving as laws
use Rattle.tree_laws.proofs.letting_go_keeps_sound.Goals as goal

pub returns : goal.returns
returns c = laws.letting_go_keeps_sound
