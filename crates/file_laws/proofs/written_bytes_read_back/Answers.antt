use Rattle.file_laws.proofs.Transfers as transfers
use Rattle.file_laws.proofs.written_bytes_read_back.Goals as goal

pub returns : goal.returns
returns c = transfers.written_bytes_read_back
