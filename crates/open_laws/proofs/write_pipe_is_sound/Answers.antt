use Rattle.open_laws.proofs.Waiting as waiting
use Rattle.open_laws.proofs.write_pipe_is_sound.Goals as goal

pub returns : goal.returns
returns c = waiting.write_pipe_is_sound
