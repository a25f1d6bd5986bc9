use Rattle.open_laws.proofs.Follows as follows
use Rattle.open_laws.proofs.pipe_has_an_end.Goals as goal

pub returns : goal.returns
returns c = follows.pipe_has_an_end
