use Rattle.open_laws.proofs.Follows as follows
use Rattle.open_laws.proofs.next_serial_is_free.Goals as goal

pub returns : goal.returns
returns c = follows.next_serial_is_free
