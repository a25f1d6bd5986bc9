use Rattle.tree_laws.proofs.LawsReading as laws
use Rattle.tree_laws.proofs.next_position_is_free.Goals as goal

pub returns : goal.returns
returns c = laws.next_position_is_free
