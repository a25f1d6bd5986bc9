use Rattle.tree_laws.proofs.LawsMaking as laws
use Rattle.tree_laws.proofs.fresh_tree_is_sound.Goals as goal

pub returns : goal.returns
returns c = laws.fresh_tree_is_sound
