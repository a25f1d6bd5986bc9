use Rattle.tree_laws.proofs.LawsRemoving as laws
use Rattle.tree_laws.proofs.lock_keeps_sound.Goals as goal

pub returns : goal.returns
returns c = laws.lock_keeps_sound
