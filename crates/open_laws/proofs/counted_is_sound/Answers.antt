use Rattle.open_laws.proofs.Made as made
use Rattle.open_laws.proofs.counted_is_sound.Goals as goal

pub returns : goal.returns
returns c = made.counted_is_sound
