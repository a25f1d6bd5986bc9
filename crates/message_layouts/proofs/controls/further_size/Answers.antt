use Rattle.std.proofs.Common.{◌≡◌, ◌≤◌, ◌<◌, ◌+◌, ◌-◌, sym, ◌∙◌, min, length, drop, arith}
use Rattle.std.proofs.lemmas.List.{length-drop, take_rest}
use Rattle.message_layouts.specs.Controls.{padded}
use Rattle.message_layouts.proofs.Sizes.{all_counted, counted_bad, one_more_counted, padded_4_most, padded_8_few, told_bounds}
use Rattle.message_layouts.proofs.controls.further_size.Goals as goal

pub returns-in_err-told-clause-size : goal.returns-in_err-told-clause-size
returns-in_err-told-clause-size c =
    let long : 12 ≤ length (drop c.loop-at.at c.args.bytes.now) = simp length-drop c.loop-at-test.true in
    let is = rw (take_rest c.args.bytes.now c.loop-at.at) at c.in_err-told.ensures in
    c.from_residual.ensures ∙ sym (counted_bad c.args.bytes.now c.loop-at.at c.loop-at.size long is c.loop-at.invariant.all)

pub loop-at-preserved : goal.loop-at-preserved
loop-at-preserved c =
    let behind = take_rest c.args.bytes.now c.loop-at.at in
    let long : 12 ≤ length (drop c.loop-at.at c.args.bytes.now) = simp length-drop c.loop-at-test.true in
    let is = rw behind at c.in_ok-told.ensures in
    let next : c.min-at.result ≡ min (padded 4 c.in_ok-told.told) (length (drop c.loop-at.at c.args.bytes.now)) = rw (c.padded_4.ensures, behind) at c.min-at.ensures in
    let left = simp length-drop at next in
    let bounds = told_bounds (drop c.loop-at.at c.args.bytes.now) c.in_ok-told.told is in
    let high : c.in_ok-told.told ≤ length c.args.bytes.now - c.loop-at.at = simp length-drop at bounds.1 in
    let far = padded_4_most c.in_ok-told.told in
    let size = padded_8_few (c.in_ok-told.told + 4) in
    let all = one_more_counted c.args.bytes.now c.loop-at.at c.loop-at.size c.in_ok-told.told c.min-at.result long is next c.loop-at.invariant.all in
    record {
      within = omega (arith, left, c.loop-at.invariant.within);
      few = omega (arith, left, bounds.0, high, far, size, c.padded_8-size.ensures, c.loop-at.invariant.few);
      all = rw (← c.padded_8-size.ensures) at all;
    }

pub returns-clause-size : goal.returns-clause-size
returns-clause-size c =
    let short : length (drop c.loop-at.at c.args.bytes.now) < 12 = simp length-drop c.loop-at-test.false in
    sym (all_counted c.args.bytes.now c.loop-at.at c.loop-at.size short c.loop-at.invariant.all)
