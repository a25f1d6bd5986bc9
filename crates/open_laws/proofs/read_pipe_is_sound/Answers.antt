use Rattle.open_laws.proofs.Waiting as waiting
use Rattle.open_laws.proofs.read_pipe_is_sound.Goals as goal

pub returns : goal.returns
returns c = waiting.read_pipe_is_sound
