use Rattle.tree_laws.proofs.LawsReading as laws
use Rattle.tree_laws.proofs.no_directory_lies_in_itself.Goals as goal

pub returns : goal.returns
returns c = laws.no_directory_lies_in_itself
