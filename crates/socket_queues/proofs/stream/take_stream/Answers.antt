use Rattle.std.proofs.Common.{◌≡◌, [], length, ap, refl, sym, ◌∙◌, rules}
use Rattle.std.proofs.lemmas.List.{append-nil}
use Rattle.socket_queues.specs.Taking.{Taken, stream_taken}
use Rattle.socket_queues.proofs.Fronts.{none_bytes, none_left, none_rights, plainly_streamed}
use Rattle.socket_queues.proofs.Kept.{plain_rights}
use Rattle.socket_queues.proofs.stream.take_stream.Goals as goal

pub returns-then-wanted-eq0-clause-bytes : goal.returns-then-wanted-eq0-clause-bytes
returns-then-wanted-eq0-clause-bytes c = none_bytes c.args.wanted c.args.into.now c.args.messages.now.items (search rules) c.requires.told

pub returns-then-wanted-eq0-clause-rights : goal.returns-then-wanted-eq0-clause-rights
returns-then-wanted-eq0-clause-rights c = none_rights c.args.wanted c.args.rights.now c.args.messages.now.items (search rules)

pub returns-then-wanted-eq0-clause-left : goal.returns-then-wanted-eq0-clause-left
returns-then-wanted-eq0-clause-left c = none_left c.args.wanted c.args.messages.now.items (search rules)

pub take_plain-requires : goal.take_plain-requires
take_plain-requires c =
    let plainly = plainly_streamed c.args.wanted c.args.messages.now.items (c.if-is_first_with_rights.ensures ∙ refl) in
    record { told = c.requires.told ∙ ap (λ (t : Taken). length t.bytes) plainly }

pub returns-clause-bytes : goal.returns-clause-bytes
returns-clause-bytes c =
    let plainly = plainly_streamed c.args.wanted c.args.messages.now.items (c.if-is_first_with_rights.ensures ∙ refl) in
    c.take_plain.ensures.bytes ∙ sym (ap (λ (t : Taken). t.bytes) plainly)

pub returns-clause-rights : goal.returns-clause-rights
returns-clause-rights c =
    let plainly = plainly_streamed c.args.wanted c.args.messages.now.items (c.if-is_first_with_rights.ensures ∙ refl) in
    let none : (stream_taken c.args.wanted c.args.messages.now.items).rights ≡ [] = ap (λ (t : Taken). t.rights) plainly ∙ plain_rights c.args.wanted c.args.messages.now.items in
    rw none (sym (append-nil c.args.rights.now))

pub returns-clause-left : goal.returns-clause-left
returns-clause-left c =
    let plainly = plainly_streamed c.args.wanted c.args.messages.now.items (c.if-is_first_with_rights.ensures ∙ refl) in
    c.take_plain.ensures.left ∙ sym (ap (λ (t : Taken). t.left) plainly)
