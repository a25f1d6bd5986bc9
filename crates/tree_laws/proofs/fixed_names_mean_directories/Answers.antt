use Rattle.tree_laws.proofs.LawsReading as laws
use Rattle.tree_laws.proofs.fixed_names_mean_directories.Goals as goal

pub returns : goal.returns
returns c = laws.fixed_names_mean_directories
