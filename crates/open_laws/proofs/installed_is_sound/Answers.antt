use Rattle.open_laws.proofs.Made as made
use Rattle.open_laws.proofs.installed_is_sound.Goals as goal

pub returns : goal.returns
returns c = made.installed_is_sound
