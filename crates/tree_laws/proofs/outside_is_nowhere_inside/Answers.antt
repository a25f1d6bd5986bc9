use Rattle.tree_laws.proofs.LawsReading as laws
use Rattle.tree_laws.proofs.outside_is_nowhere_inside.Goals as goal

pub returns : goal.returns
returns c = laws.outside_is_nowhere_inside
