use Rattle.tree_laws.proofs.LawsMaking as laws
use Rattle.tree_laws.proofs.sound_tree_stays_sound.Goals as goal

pub returns : goal.returns
returns c = laws.sound_tree_stays_sound
