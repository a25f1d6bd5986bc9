use Rattle.open_laws.proofs.Named as named
use Rattle.open_laws.proofs.changed_is_sound.Goals as goal

pub returns : goal.returns
returns c = named.changed_is_sound
