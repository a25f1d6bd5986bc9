use Rattle.tree_laws.proofs.LawsMaking as laws
use Rattle.tree_laws.proofs.image_bytes_keep_sound.Goals as goal

pub returns : goal.returns
returns c = laws.image_bytes_keep_sound
