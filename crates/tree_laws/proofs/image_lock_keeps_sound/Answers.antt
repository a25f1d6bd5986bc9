use Rattle.tree_laws.proofs.LawsMaking as laws
use Rattle.tree_laws.proofs.image_lock_keeps_sound.Goals as goal

pub returns : goal.returns
returns c = laws.image_lock_keeps_sound
