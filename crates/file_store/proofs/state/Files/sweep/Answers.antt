use Rattle.std.proofs.Common.{◌≡◌, ◌+◌, ◌<◌, ◌++◌, [], length, sym, ◌∙◌, ap, refl, arith, rules, length-append}
use Rattle.file_store.specs.Releasing.{all_swept}
use Rattle.file_store.proofs.Sweepings.{few_still, fewer_left, nothing_swept, one_ends, one_lasts}
use Rattle.file_store.proofs.state.Files.sweep.Goals as goal

pub end_before-requires : goal.end_before-requires
end_before-requires c =
    let count = ap length c.in-Some.ensures.items in
    omega (arith, count, c.loop-serial.invariant.few)

pub loop-serial-smaller-then-not-is_held : goal.loop-serial-smaller-then-not-is_held
loop-serial-smaller-then-not-is_held c =
    let count = ap length c.in-Some.ensures.items in
    fewer_left _ _ c.pop_front.new.self _ _ _ count c.end_before.ensures.held c.end_before.ensures.total

pub loop-serial-preserved-then-not-is_held : goal.loop-serial-preserved-then-not-is_held
loop-serial-preserved-then-not-is_held c =
    let goes = one_ends c.loop-serial.self c.in-Some.serial c.pop_front.new.self _ (sym c.if-not-is_held.ensures) refl (rw c.end_before.ensures.after at c.end_before.ensures.total) in
    let count = ap length c.in-Some.ensures.items in
    record {
      same = rw (c.end_before.ensures.after, c.end_before.ensures.held) (sym goes ∙ ap (all_swept c.loop-serial.self) (sym c.in-Some.ensures.items) ∙ c.loop-serial.invariant.same);
      few = few_still _ _ c.pop_front.new.self _ _ _ count c.end_before.ensures.held c.end_before.ensures.total c.loop-serial.invariant.few;
    }

pub loop-serial-preserved : goal.loop-serial-preserved
loop-serial-preserved c =
    let count = ap length c.in-Some.ensures.items in
    record {
      same = sym (one_lasts c.loop-serial.self c.in-Some.serial c.pop_front.new.self (sym c.if-not-is_held.ensures)) ∙ ap (all_swept c.loop-serial.self) (sym c.in-Some.ensures.items) ∙ c.loop-serial.invariant.same;
      few = omega (arith, count, c.loop-serial.invariant.few);
    }

pub returns : goal.returns
returns c =
    let none : c.loop-serial.left ≡ [] = search rules in
    sym (nothing_swept c.loop-serial.self) ∙ ap (all_swept c.loop-serial.self) (sym none) ∙ c.loop-serial.invariant.same
