use Rattle.open_laws.proofs.Waiting as waiting
use Rattle.open_laws.proofs.taken_is_sound.Goals as goal

pub returns : goal.returns
returns c = waiting.taken_is_sound
