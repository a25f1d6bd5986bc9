use Rattle.tree_laws.proofs.LawsReading as laws
use Rattle.tree_laws.proofs.next_inode_is_new.Goals as goal

pub returns : goal.returns
returns c = laws.next_inode_is_new
