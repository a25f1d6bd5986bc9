use Rattle.open_laws.proofs.Follows as follows
use Rattle.open_laws.proofs.pair_has_new_numbers.Goals as goal

pub returns : goal.returns
returns c = follows.pair_has_new_numbers
