use Rattle.std.proofs.Common.{◌≡◌, ◌+◌, ◌<◌, ◌^◌, ◌++◌, length, ◌∙◌, ap, refl, arith, rules, length-append}
use Rattle.socket_queues.proofs.Waiting.{first_count, first_rights, no_rights}
use Rattle.socket_queues.proofs.queue.MessageQueue.give_rights.Goals as goal

pub loop-message-init : goal.loop-message-init
loop-message-init c = record { same = refl; few = rw (← c.self.view_is) at c.requires }

pub unreachable-requires : goal.unreachable-requires
unreachable-requires c =
    let count = first_count c.in-Some.message _ _ c.in-Some.ensures.items in
    let room : length c.loop-message.held + length c.in-Some.message.rights < 2 ^ 63 = omega (arith, count, c.loop-message.invariant.few) in
    let went = c.append.ensures.succeeds room in
    search (rules, went)

pub loop-message-smaller : goal.loop-message-smaller
loop-message-smaller c =
    let shorter = ap length c.in-Some.ensures.items in
    omega (arith, shorter)

pub loop-message-preserved : goal.loop-message-preserved
loop-message-preserved c =
    let put : c.append.new.self ≡ c.loop-message.held ++ c.in-Some.message.rights = search rules in
    let count = first_count c.in-Some.message _ _ c.in-Some.ensures.items in
    record {
      same = rw put (first_rights c.loop-message.held c.in-Some.message.rights c.in-Some.message _ _ c.in-Some.ensures.items refl ∙ c.loop-message.invariant.same);
      few = rw put (simp length-append (omega (arith, count, c.loop-message.invariant.few)));
    }

pub returns : goal.returns
returns c = rw (← c.self.view_is) (no_rights c.loop-message.held c.loop-message.messages.items (search rules) ∙ c.loop-message.invariant.same)
