use Rattle.std.proofs.Common.{◌∙◌, arith}
use Rattle.std.proofs.lemmas.Int.{to_z-of_z}
use Rattle.file_calls.proofs.Records.{refused_first, refused_later, stored_one}
use Rattle.file_calls.proofs.listings.store_entries.Goals as goal

pub returns-then-listed-eq0 : goal.returns-then-listed-eq0
returns-then-listed-eq0 c =
    let behind = rw c.in-Some.is at c.in_ok-entry.ensures.told in
    let refused = rw c.in-Err-Errno.field-0-is at c.in-Err-Errno.ensures.stored in
    let here = rw c.from-in-loop-entry.ensures at (rw c.from.ensures at refused) in
    let last = refused_first _ _ _ c.loop-entry.listed _ _ _ _ _ _ behind here c.if-listed-eq0.true in
    let all = simp (to_z-of_z, c.ranges.fd) at (c.loop-entry.invariant.same ∙ last) in
    rw c.in-Err-Errno.field-0-is all

pub returns-in-Err-Errno : goal.returns-in-Err-Errno
returns-in-Err-Errno c =
    let behind = rw c.in-Some.is at c.in_ok-entry.ensures.told in
    let refused = rw c.in-Err-Errno.field-0-is at c.in-Err-Errno.ensures.stored in
    let here = rw c.from-in-loop-entry.ensures at (rw c.from.ensures at refused) in
    let last = refused_later _ _ _ c.loop-entry.listed _ _ _ _ _ _ behind here c.if-listed-eq0.false in
    simp (to_z-of_z, c.ranges.fd) at (c.loop-entry.invariant.same ∙ last)

pub loop-entry-preserved : goal.loop-entry-preserved
loop-entry-preserved c =
    let behind = rw c.in-Some.is at c.in_ok-entry.ensures.told in
    let here = rw c.from-in-loop-entry.ensures at (rw c.from.ensures at c.in-Ok.ensures.stored) in
    record {
      within = omega (arith, c.in-Ok.ensures.fits, c.from-in-loop-entry.ensures, c.loop-entry.invariant.within);
      same = rw c.in-Ok.ensures.length (c.loop-entry.invariant.same ∙ stored_one _ _ _ c.loop-entry.listed _ _ _ _ _ behind here);
    }
