use Rattle.tree_laws.proofs.LawsReading as laws
use Rattle.tree_laws.proofs.links_are_not_cut.Goals as goal

pub returns : goal.returns
returns c = laws.links_are_not_cut
