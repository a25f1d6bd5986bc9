use Rattle.signal_clock.proofs.Safety.{blockable_neither}
use Rattle.signal_clock.proofs.sets.blockable.Goals as goal

pub returns-clause-neither : goal.returns-clause-neither
returns-clause-neither c = blockable_neither c.args.set
