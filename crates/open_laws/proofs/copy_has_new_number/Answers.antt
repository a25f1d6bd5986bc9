use Rattle.open_laws.proofs.Follows as follows
use Rattle.open_laws.proofs.copy_has_new_number.Goals as goal

pub returns : goal.returns
returns c = follows.copy_has_new_number
