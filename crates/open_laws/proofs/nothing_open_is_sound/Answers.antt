use Rattle.open_laws.proofs.Made as made
use Rattle.open_laws.proofs.nothing_open_is_sound.Goals as goal

pub returns : goal.returns
returns c = made.nothing_open_is_sound
