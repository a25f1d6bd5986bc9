use Rattle.std.proofs.Common.{◌≡◌, ◌≤◌, ◌<◌, ◌+◌, ◌-◌, ◌∙◌, ap, Some, length, drop, arith, rules}
use Rattle.std.proofs.lemmas.List.{drop-drop, length-drop, take_rest}
use Rattle.message_layouts.proofs.Sizes.{all_put, good_from, one_more_put, whole_put}
use Rattle.message_layouts.proofs.controls.translate_further.Goals as goal

pub loop-at-preserved : goal.loop-at-preserved
loop-at-preserved c =
    let f = c.first_of-first.ensures in
    let behind = take_rest c.args.from.now c.loop-at.at in
    let long : 12 ≤ length (drop c.loop-at.at c.args.from.now) = simp length-drop c.loop-at-test.true in
    let told = rw behind at f.told in
    let low = rw told at f.low in
    let high = rw (told, behind) at f.high in
    let next = rw behind at f.next in
    let here = rw behind at c.put_first.ensures in
    let size : length c.put_first.new.out ≡ c.first_of-first.result.size = search rules in
    let left = simp length-drop at next in
    let mid : c.loop-at.put + c.first_of-first.result.size - c.loop-at.put ≡ c.first_of-first.result.size = omega arith in
    let whole = rw (← mid) at (whole_put c.loop-at.out c.put_first.new.out c.loop-at.put c.first_of-first.result.size (omega (arith, f.fits, c.loop-at.invariant.inside)) size) in
    let rest = rw (behind, drop-drop c.first_of-first.result.next c.loop-at.at c.args.from.now) at f.rest in
    record {
      within = omega (arith, left, c.loop-at.invariant.within);
      inside = omega (arith, whole, f.fits, c.loop-at.invariant.inside);
      room = rest ∙ ap Some (omega (arith, whole));
      all = one_more_put c.args.from.now c.loop-at.out c.put_first.new.out _ c.loop-at.at c.loop-at.put c.first_of-first.result.size c.first_of-first.result.next
          c.loop-at.invariant.inside size long (good_from _ low high) next here c.loop-at.invariant.all;
    }

pub returns : goal.returns
returns c =
    let short : length (drop c.loop-at.at c.args.from.now) < 12 = simp length-drop c.loop-at-test.false in
    all_put c.args.from.now c.loop-at.out c.loop-at.at c.loop-at.put short c.loop-at.invariant.room c.loop-at.invariant.all
