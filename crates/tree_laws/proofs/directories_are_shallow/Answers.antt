use Rattle.tree_laws.proofs.LawsReading as laws
use Rattle.tree_laws.proofs.directories_are_shallow.Goals as goal

pub returns : goal.returns
returns c = laws.directories_are_shallow
