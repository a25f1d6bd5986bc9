use Rattle.std.proofs.Common.{◌≡◌, length-append, take, ap, refl, ◌∙◌, arith}
use Rattle.control_repack.specs.Outgoing.{rights_bytes, rights_message, room_left}
use Rattle.control_repack.specs.Regions.{with_taken}
use Rattle.control_repack.proofs.Behind.{bytes_behind}
use Rattle.control_repack.proofs.Putting.{both_put, rights_within}
use Rattle.control_repack.proofs.outgoing.controls_out.Goals as goal

pub returns-clause-after : goal.returns-clause-after
returns-clause-after c =
    let r = c.args.received.now in
    let first = c.put_credentials-first.ensures in
    let second = c.put_rights-second.ensures in
    let told = rw (c.as_slice-rights.ensures, first.length) at c.told_count-told.ensures in
    let rights : rights_message (take c.told_count-told.result c.as_slice-rights.result.now) ≡ rights_bytes r.rights (room_left r c.args.room) = rw (c.as_slice-rights.ensures, told) refl in
    c.put_span.ensures.after ∙ ap (with_taken c.args.scratch.now) (both_put _ _ _ _ _ _ _ _ _ first.bytes (rw rights at second.bytes) first.length (rw rights at second.length))

pub returns-clause-bytes : goal.returns-clause-bytes
returns-clause-bytes c =
    let r = c.args.received.now in
    let first = c.put_credentials-first.ensures in
    let second = c.put_rights-second.ensures in
    let told = rw (c.as_slice-rights.ensures, first.length) at c.told_count-told.ensures in
    let rights : rights_message (take c.told_count-told.result c.as_slice-rights.result.now) ≡ rights_bytes r.rights (room_left r c.args.room) = rw (c.as_slice-rights.ensures, told) refl in
    let put = both_put _ _ _ _ _ _ _ _ _ first.bytes (rw rights at second.bytes) first.length (rw rights at second.length) in
    rw (c.put_span.ensures.span, c.put_span.ensures.after) (bytes_behind c.args.scratch.now _ ∙ put)

pub returns-clause-within : goal.returns-clause-within
returns-clause-within c =
    let r = c.args.received.now in
    let first = c.put_credentials-first.ensures in
    let second = rights_within r.rights (room_left r c.args.room) in
    simp length-append (omega (arith, first.length, first.within, second))
