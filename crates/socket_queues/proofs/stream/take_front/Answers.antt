use Rattle.std.proofs.Common.{◌≤◌, length, arith, rules}
use Rattle.socket_queues.proofs.Fronts.{no_messages, part_first, part_fits, rights_first, whole_first, whole_fits}
use Rattle.socket_queues.proofs.stream.take_front.Goals as goal

pub returns-in_default-clause-same : goal.returns-in_default-clause-same
returns-in_default-clause-same c = no_messages _ _ _ c.in_default.ensures.item.3

pub returns-then-has_rights-clause-same : goal.returns-then-has_rights-clause-same
returns-then-has_rights-clause-same c = rights_first _ _ _ _ c.in-Some.ensures.item.3.0 (c.in-Some.ensures.item.3.1 _) c.if-has_rights.ensures

pub take_part-requires-clause-room : goal.take_part-requires-clause-room
take_part-requires-clause-room c = part_fits _ _ _ _ _ c.in-Some.ensures.item.3.0 (c.in-Some.ensures.item.3.1 _) c.if-has_rights.ensures c.requires.some (search rules) c.requires.room

pub returns-then-at-count-clause-same : goal.returns-then-at-count-clause-same
returns-then-at-count-clause-same c = part_first _ _ _ _ _ _ c.in-Some.ensures.item.3.0 (c.in-Some.ensures.item.3.1 _) c.if-has_rights.ensures c.requires.some (search rules) c.take_part.ensures.into c.take_part.ensures.left

pub take_part-requires-2-clause-room : goal.take_part-requires-2-clause-room
take_part-requires-2-clause-room c =
    let few : length c.in-Some.front.now.bytes ≤ c.args.at.wanted = search rules in
    let fits = whole_fits _ _ _ _ c.in-Some.front.now c.in-Some.ensures.item.3.0 (c.in-Some.ensures.item.3.1 _) c.if-has_rights.ensures c.requires.some few c.requires.room in
    omega (arith, fits, c.len-count.ensures)

pub returns-clause-same : goal.returns-clause-same
returns-clause-same c = whole_first _ _ _ _ _ _ _ _ c.in-Some.ensures.item.3.0 (c.in-Some.ensures.item.3.1 _) c.if-has_rights.ensures c.requires.some c.len-count.ensures (search rules) c.take_part-2.ensures.into c.pop_front.ensures.rest
