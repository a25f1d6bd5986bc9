use Rattle.std.proofs.Common.{◌+◌, length, ap, subst}
use Rattle.kernel_values.specs.declared.signals.AltStack.{AltStack}
use Rattle.signal_clock.specs.HeldStack.{IsRoomy}
use Rattle.signal_frames.specs.Delivery.{State}
use Rattle.signal_frames.proofs.Apart.{apart_frames}
use Rattle.signal_frames.proofs.Standing.{frames_stand}
use Rattle.signal_frames.proofs.Turns.{last_turn, next_turn}
use Rattle.signal_frames.proofs.delivery.deliver_all.Goals as goal

pub loop-taken-preserved : goal.loop-taken-preserved
loop-taken-preserved c =
    next_turn c.args.restorer c.loop-taken.current c.loop-taken.memory c.loop-taken.kernel c.next_signal.new.self c.in-Some.taken
    (c.deliver-current.result, (c.deliver-current.new.memory, c.deliver-current.new.kernel)) _ c.loop-taken.invariant c.in-Some.ensures.taken
    c.deliver-current.ensures.state (rw c.deliver-current.ensures.signals c.in-Some.ensures.fewer)

pub returns-clause-state : goal.returns-clause-state
returns-clause-state c =
    last_turn c.args.restorer c.loop-taken.current c.loop-taken.memory c.loop-taken.kernel c.next_signal.new.self _ c.loop-taken.invariant
    c.in_default.ensures.taken

pub returns-clause-apart : goal.returns-clause-apart
returns-clause-apart c =
    apart_frames (length c.args.kernel.now.signals.waiting + 1) c.args.restorer (c.args.registers.now, (c.args.memory.now, c.args.kernel.now))
    (subst (λ (a : AltStack). IsRoomy a) c.get-roomy.ensures.stack c.get-roomy.ensures.roomy)

pub returns-clause-stand : goal.returns-clause-stand
returns-clause-stand c =
    frames_stand (length c.args.kernel.now.signals.waiting + 1) c.args.restorer (c.args.registers.now, (c.args.memory.now, c.args.kernel.now)) c.loop-taken.memory
    (ap (λ (s : State). s.1.0)
    (last_turn c.args.restorer c.loop-taken.current c.loop-taken.memory c.loop-taken.kernel c.next_signal.new.self _ c.loop-taken.invariant c.in_default.ensures.taken))
    c.mapped_pages-formed.ensures.formed (subst (λ (a : AltStack). IsRoomy a) c.get-roomy.ensures.stack c.get-roomy.ensures.roomy)
