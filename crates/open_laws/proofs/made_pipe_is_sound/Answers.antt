use Rattle.open_laws.proofs.Made as made
use Rattle.open_laws.proofs.made_pipe_is_sound.Goals as goal

pub returns : goal.returns
returns c = made.made_pipe_is_sound
