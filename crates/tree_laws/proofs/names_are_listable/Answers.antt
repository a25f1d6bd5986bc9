use Rattle.tree_laws.proofs.LawsReading as laws
use Rattle.tree_laws.proofs.names_are_listable.Goals as goal

pub returns : goal.returns
returns c = laws.names_are_listable
