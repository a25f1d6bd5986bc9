use Rattle.tree_laws.proofs.LawsReading as laws
use Rattle.tree_laws.proofs.steps_lead_to_directory.Goals as goal

pub returns : goal.returns
returns c = laws.steps_lead_to_directory
