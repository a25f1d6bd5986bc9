use Rattle.open_laws.proofs.Ended as ended
use Rattle.open_laws.proofs.drained_is_sound.Goals as goal

pub returns : goal.returns
returns c = ended.drained_is_sound
