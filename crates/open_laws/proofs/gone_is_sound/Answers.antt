use Rattle.open_laws.proofs.Ended as ended
use Rattle.open_laws.proofs.gone_is_sound.Goals as goal

pub returns : goal.returns
returns c = ended.gone_is_sound
