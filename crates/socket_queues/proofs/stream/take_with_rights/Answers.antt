use Rattle.std.proofs.Common.{◌<◌, ◌≤◌, ◌++◌, length, ap, sym, ◌∙◌, refl, arith, rules}
use Rattle.socket_queues.specs.Taking.{Taken, stream_taken}
use Rattle.socket_queues.proofs.Fronts.{front_size, front_within, left_part, left_whole, rights_streamed, taken_front}
use Rattle.socket_queues.proofs.stream.take_with_rights.Goals as goal

pub take-requires : goal.take-requires
take-requires c =
    let taken = rights_streamed c.args.wanted c.args.messages.now.items c.in-Some.front.now c.in-Some.ensures.item.3.0 (c.in-Some.ensures.item.3.1 _) c.requires.first c.requires.some in
    let count = ap (λ (t : Taken). length t.bytes) taken in
    let within = front_within c.args.wanted c.in-Some.front.now.bytes in
    omega (arith, count, within, c.requires.told)

pub returns-then-wanted-count-clause-bytes : goal.returns-then-wanted-count-clause-bytes
returns-then-wanted-count-clause-bytes c =
    let taken = rights_streamed c.args.wanted c.args.messages.now.items c.in-Some.front.now c.in-Some.ensures.item.3.0 (c.in-Some.ensures.item.3.1 _) c.requires.first c.requires.some in
    taken_front _ _ _ _ (stream_taken c.args.wanted c.args.messages.now.items) c.requires.told (ap (λ (t : Taken). t.bytes) taken) c.take.ensures.bytes

pub returns-then-wanted-count-clause-rights : goal.returns-then-wanted-count-clause-rights
returns-then-wanted-count-clause-rights c =
    let taken = rights_streamed c.args.wanted c.args.messages.now.items c.in-Some.front.now c.in-Some.ensures.item.3.0 (c.in-Some.ensures.item.3.1 _) c.requires.first c.requires.some in
    c.give.ensures.to ∙ ap (λ (t : Taken). c.args.rights.now ++ t.rights) (sym taken)

pub returns-then-wanted-count-clause-left : goal.returns-then-wanted-count-clause-left
returns-then-wanted-count-clause-left c =
    let taken = rights_streamed c.args.wanted c.args.messages.now.items c.in-Some.front.now c.in-Some.ensures.item.3.0 (c.in-Some.ensures.item.3.1 _) c.requires.first c.requires.some in
    let few : c.args.wanted < length c.in-Some.front.now.bytes = search rules in
    let size = front_size c.args.wanted _ c.in-Some.front.now.bytes (stream_taken c.args.wanted c.args.messages.now.items) c.requires.told (ap (λ (t : Taken). t.bytes) taken) few in
    left_part c.args.wanted c.args.messages.now.items c.in-Some.front.now _ c.in-Some.ensures.item.3.0 few (rw (c.take.ensures.left, c.give.ensures.from, size) refl)
    ∙ sym (ap (λ (t : Taken). t.left) taken)

pub returns-clause-bytes : goal.returns-clause-bytes
returns-clause-bytes c =
    let taken = rights_streamed c.args.wanted c.args.messages.now.items c.in-Some.front.now c.in-Some.ensures.item.3.0 (c.in-Some.ensures.item.3.1 _) c.requires.first c.requires.some in
    taken_front _ _ _ _ (stream_taken c.args.wanted c.args.messages.now.items) c.requires.told (ap (λ (t : Taken). t.bytes) taken) c.take.ensures.bytes

pub returns-clause-rights : goal.returns-clause-rights
returns-clause-rights c =
    let taken = rights_streamed c.args.wanted c.args.messages.now.items c.in-Some.front.now c.in-Some.ensures.item.3.0 (c.in-Some.ensures.item.3.1 _) c.requires.first c.requires.some in
    c.give.ensures.to ∙ ap (λ (t : Taken). c.args.rights.now ++ t.rights) (sym taken)

pub returns-clause-left : goal.returns-clause-left
returns-clause-left c =
    let taken = rights_streamed c.args.wanted c.args.messages.now.items c.in-Some.front.now c.in-Some.ensures.item.3.0 (c.in-Some.ensures.item.3.1 _) c.requires.first c.requires.some in
    let all : length c.in-Some.front.now.bytes ≤ c.args.wanted = search rules in
    left_whole c.args.wanted c.args.messages.now.items c.pop_front.new.self.items c.in-Some.front.now _ c.in-Some.ensures.item.3.0 all c.pop_front.ensures.rest
    ∙ sym (ap (λ (t : Taken). t.left) taken)
