use Rattle.tree_laws.proofs.LawsReading as laws
use Rattle.tree_laws.proofs.directory_stands_once.Goals as goal

pub returns : goal.returns
returns c = laws.directory_stands_once
