use Rattle.message_rights.proofs.Givings.{nothing_in_front}
use Rattle.message_rights.proofs.giving.next.Goals as goal

pub returns-in-None : goal.returns-in-None
returns-in-None c = nothing_in_front c.args.room c.args.limit c.args.rights.now c.args.open_files.now c.in-None.ensures.variant.1
