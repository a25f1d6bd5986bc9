use Rattle.tree_laws.proofs.LawsReading as laws
use Rattle.tree_laws.proofs.listed_positions_are_narrow.Goals as goal

pub returns : goal.returns
returns c = laws.listed_positions_are_narrow
