use Rattle.tree_laws.proofs.LawsReading as laws
use Rattle.tree_laws.proofs.named_inode_is_there.Goals as goal

pub returns : goal.returns
returns c = laws.named_inode_is_there
