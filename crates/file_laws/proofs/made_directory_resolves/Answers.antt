use Rattle.file_laws.proofs.Making as making
use Rattle.file_laws.proofs.made_directory_resolves.Goals as goal

pub returns : goal.returns
returns c = making.made_directory_resolves
