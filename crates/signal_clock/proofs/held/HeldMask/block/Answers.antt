use Rattle.signal_clock.proofs.Safety.{or_neither}
use Rattle.signal_clock.proofs.held.HeldMask.block.Goals as goal

pub invariant_of-self : goal.invariant_of-self
invariant_of-self c = or_neither c.self.inside.set c.args.set c.self.invariant c.requires
