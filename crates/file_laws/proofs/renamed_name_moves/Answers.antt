use Rattle.file_laws.proofs.Renaming as names
use Rattle.file_laws.proofs.renamed_name_moves.Goals as goal

pub returns : goal.returns
returns c = names.renamed_name_moves
