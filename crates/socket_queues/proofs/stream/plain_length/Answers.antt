use Rattle.std.proofs.Common.{◌<◌, ◌≤◌, length, arith, rules}
use Rattle.socket_queues.proofs.Counts.{count_enough, count_more, count_none, count_rights}
use Rattle.socket_queues.proofs.stream.plain_length.Goals as goal
use Rattle.socket_queues.proofs.stream.plain_length.Goals.{in-Some+then-has_rights, in_default}

pub returns-then-left-count : goal.returns-then-left-count
returns-then-left-count c =
    let enough : c.loop-message.left ≤ length c.in-Some.message.now.bytes = search rules in
    let count = count_enough c.loop-message.left c.loop-message.index c.args.messages.now.items c.in-Some.message.now c.in-Some.ensures.item.3.0 (c.in-Some.ensures.item.3.1 _) c.if-has_rights.ensures enough in
    omega (arith, count, c.loop-message.invariant.rest, c.loop-message.invariant.within)

pub loop-message-preserved : goal.loop-message-preserved
loop-message-preserved c =
    let fewer : c.len-count.result < c.loop-message.left = search rules in
    let count = count_more c.loop-message.left c.len-count.result c.loop-message.index c.args.messages.now.items c.in-Some.message.now c.in-Some.ensures.item.3.0 (c.in-Some.ensures.item.3.1 _) c.if-has_rights.ensures c.len-count.ensures fewer in
    let here = c.in-Some.ensures.item.3.0 in
    record {
      rest = omega (arith, count, fewer, c.loop-message.invariant.rest, c.loop-message.invariant.within);
      within = omega (arith, c.loop-message.invariant.within);
      place = omega (arith, here);
    }

pub returns : goal.returns
returns c = elim c.match-get.branch [
  | in-Some+then-has_rights w ↦
      let none = count_rights c.loop-message.left c.loop-message.index c.args.messages.now.items w.in-Some.message.now w.in-Some.ensures.item.3.0 (w.in-Some.ensures.item.3.1 _) w.if-has_rights.ensures in
      omega (arith, none, c.loop-message.invariant.rest)
  | in_default w ↦
      let none = count_none c.loop-message.left c.loop-message.index c.args.messages.now.items w.in_default.ensures.item.3 in
      omega (arith, none, c.loop-message.invariant.rest)
]
