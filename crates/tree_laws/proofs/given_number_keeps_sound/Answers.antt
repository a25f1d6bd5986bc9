use Rattle.tree_laws.proofs.LawsMaking as laws
use Rattle.tree_laws.proofs.given_number_keeps_sound.Goals as goal

pub returns : goal.returns
returns c = laws.given_number_keeps_sound
