use Rattle.open_laws.proofs.Named as named
use Rattle.open_laws.proofs.set_fd_flags_is_sound.Goals as goal

pub returns : goal.returns
returns c = named.set_fd_flags_is_sound
