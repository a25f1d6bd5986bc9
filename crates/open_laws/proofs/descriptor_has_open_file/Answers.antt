use Rattle.open_laws.proofs.Follows as follows
use Rattle.open_laws.proofs.descriptor_has_open_file.Goals as goal

pub returns : goal.returns
returns c = follows.descriptor_has_open_file
