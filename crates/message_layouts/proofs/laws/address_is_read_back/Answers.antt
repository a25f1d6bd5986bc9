use Rattle.message_layouts.proofs.Names.{address_back}
use Rattle.message_layouts.proofs.laws.address_is_read_back.Goals as goal

pub returns : goal.returns
returns c = address_back
