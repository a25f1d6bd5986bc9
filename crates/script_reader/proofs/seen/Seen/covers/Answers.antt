use Rattle.std.proofs.Common.{◌+◌, ◌^◌, refl, sym, arith}
use Rattle.std.proofs.lemmas.Bool.{le-leb}
use Rattle.script_reader.proofs.Covered.{all_from, one_fails}
use Rattle.script_reader.proofs.seen.Seen.covers.Goals as goal

pub returns : goal.returns
returns c =
    let all = all_from c.args.length c.args.self.now.pages c.args.at (λ a from_a below. c.loop-next.invariant.so_far a from_a (omega arith)) in
    rw (le-leb (c.args.at + c.args.length) (2 ^ 32) (omega arith), all) refl

pub returns-then-not-contains : goal.returns-then-not-contains
returns-then-not-contains c =
    let fails = one_fails c.args.length c.args.self.now.pages c.args.at c.loop-next.next (omega arith) (omega arith) (rw c.page_number-number.ensures at (sym c.if-not-contains.ensures)) in
    rw (le-leb (c.args.at + c.args.length) (2 ^ 32) (omega arith), fails) refl
