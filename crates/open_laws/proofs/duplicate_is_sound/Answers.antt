use Rattle.open_laws.proofs.Named as named
use Rattle.open_laws.proofs.duplicate_is_sound.Goals as goal

pub returns : goal.returns
returns c = named.duplicate_is_sound
