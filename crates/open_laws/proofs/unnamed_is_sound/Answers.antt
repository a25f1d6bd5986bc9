use Rattle.open_laws.proofs.Ended as ended
use Rattle.open_laws.proofs.unnamed_is_sound.Goals as goal

pub returns : goal.returns
returns c = ended.unnamed_is_sound
