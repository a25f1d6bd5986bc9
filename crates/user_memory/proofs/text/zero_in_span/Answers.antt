use Rattle.std.proofs.Common.{◌≡◌, ◌+◌, ◌-◌, ◌/◌, arith}
use Rattle.user_memory.specs.States.{states_of}
use Rattle.user_memory.proofs.Prefixes.{zeros_apart}
use Rattle.user_memory.proofs.text.zero_in_span.Goals as goal

pub returns-in-Some-clause-before : goal.returns-in-Some-clause-before
returns-in-Some-clause-before c = zeros_apart (states_of c.args.pages.now) c.args.at c.loop-done.done c.in-Some.i c.loop-done.invariant.so_far c.in-Some.ensures.before

pub loop-done-preserved : goal.loop-done-preserved
loop-done-preserved c =
    let here : c.loop-done.place ≡ c.args.span.place + ((c.args.at + c.loop-done.done) / 4096 - c.args.at / 4096) = c.loop-done.invariant.here (omega arith) in
    record {
      within = omega arith;
      here = λ some. omega (arith, here);
      so_far = zeros_apart (states_of c.args.pages.now) c.args.at c.loop-done.done c.length_in_page-count.result c.loop-done.invariant.so_far c.in_default.ensures.before;
    }
