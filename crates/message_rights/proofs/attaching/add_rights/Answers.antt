use Rattle.std.proofs.Common.{◌≡◌, ◌∙◌, ◌+◌, ◌<◌, length, nat_lt, false, Err, sym}
use Rattle.std.proofs.lemmas.Bool.{le-ltb}
use Rattle.message_layouts.specs.Contents.{rights_count}
use Rattle.message_rights.specs.Attaching.{serial_at}
use Rattle.message_rights.proofs.Attachings.{one_refused}
use Rattle.message_rights.proofs.attaching.add_rights.Goals as goal

pub returns-in-Err : goal.returns-in-Err
returns-in-Err c =
    let told : serial_at c.args.open_files.now c.args.content.now c.loop-index.index ≡ Err c.in-Err.errno = sym c.serial_at.ensures ∙ c.in-Err.is in
    let within : c.loop-index.index < c.rights_count-count.result = search in
    let few : nat_lt 253 (length c.args.sent.rights + rights_count c.args.content.now) ≡ false = le-ltb _ _ (rw (c.len.ensures.value, c.rights_count-count.ensures) at c.if-len-count-gt-MOST_RIGHTS.false) in
    let all = sym c.loop-index.invariant.same ∙ one_refused _ _ c.args.sent c.loop-index.rights c.loop-index.index c.rights_count-count.result c.in-Err.errno within told in
    rw (few, ← c.rights_count-count.ensures) all
