use Rattle.file_laws.proofs.Copies as copies
use Rattle.file_laws.proofs.closed_copy_leaves_the_others.Goals as goal

pub returns : goal.returns
returns c = copies.closed_copy_leaves_the_others
