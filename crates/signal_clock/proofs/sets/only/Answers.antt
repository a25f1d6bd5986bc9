use Rattle.signal_clock.proofs.Safety.{only_neither}
use Rattle.signal_clock.proofs.Shifts.{one_shifted}
use Rattle.std.proofs.Common.{◌-◌, sym, subst, arith}
use Rattle.signal_clock.specs.Held.{HasNeither}
use Rattle.signal_clock.proofs.sets.only.Goals as goal

pub returns-clause-neither : goal.returns-clause-neither
returns-clause-neither c = λ free. subst HasNeither (sym (one_shifted (c.args.signal - 1) (omega (arith, c.requires.low, c.requires.high)))) (only_neither c.args.signal c.requires.low free)
