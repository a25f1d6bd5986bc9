use Rattle.file_laws.proofs.Copies as copies
use Rattle.file_laws.proofs.copy_names_the_same.Goals as goal

pub returns : goal.returns
returns c = copies.copy_names_the_same
