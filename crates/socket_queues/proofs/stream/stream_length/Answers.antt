use Rattle.std.proofs.Common.{◌∙◌, sym}
use Rattle.socket_queues.proofs.Counts.{count_streamed_none, count_streamed_plainly, count_streamed_rights}
use Rattle.socket_queues.proofs.Fronts.{first_with}
use Rattle.socket_queues.proofs.stream.stream_length.Goals as goal

pub returns-then-has_rights : goal.returns-then-has_rights
returns-then-has_rights c =
    let first = first_with c.args.messages.now.items c.in-Some.message.now c.in-Some.ensures.item.3.0 (c.in-Some.ensures.item.3.1 _) in
    let count = count_streamed_rights c.args.wanted c.args.messages.now.items c.in-Some.message.now c.in-Some.ensures.item.3.0 (c.in-Some.ensures.item.3.1 _) (sym (c.if-has_rights.ensures ∙ first)) in
    rw (c.min.ensures, c.len.ensures) count

pub returns-else-has_rights : goal.returns-else-has_rights
returns-else-has_rights c =
    let first = first_with c.args.messages.now.items c.in-Some.message.now c.in-Some.ensures.item.3.0 (c.in-Some.ensures.item.3.1 _) in
    c.plain_length.ensures ∙ count_streamed_plainly c.args.wanted c.args.messages.now.items (c.if-has_rights.ensures ∙ first)

pub returns-in-None : goal.returns-in-None
returns-in-None c = count_streamed_none c.args.wanted c.args.messages.now.items c.in-None.ensures.item.3
