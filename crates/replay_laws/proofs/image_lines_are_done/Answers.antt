use Rattle.replay_laws.proofs.Scripts as scripts
use Rattle.replay_laws.proofs.image_lines_are_done.Goals as goal

pub returns : goal.returns
returns c = scripts.image_lines_are_done
