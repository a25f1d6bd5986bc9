use Rattle.message_layouts.proofs.ReadBack.{read_back}
use Rattle.message_layouts.proofs.laws.spelled_are_read_back.Goals as goal

pub returns : goal.returns
returns c = read_back
