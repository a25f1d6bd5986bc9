use Rattle.std.proofs.Common.{◌+◌, ap, sym, ◌∙◌, arith}
use Rattle.file_bytes.specs.Pages.{byte_at}
use Rattle.file_bytes.proofs.Counts.{one_more, no_more, none_below, page_filled, to_page, to_end}
use Rattle.file_bytes.proofs.pages.Pages.filled_pages.Goals as goal
use Rattle.file_bytes.proofs.pages.Pages.filled_pages.Goals.{then-is_filled, else-is_filled}

pub loop-number-init : goal.loop-number-init
loop-number-init c = record { low = omega arith; fits = omega arith; counted = none_below (byte_at c.args.self.now.map.entries) }

pub loop-number-preserved : goal.loop-number-preserved
loop-number-preserved c =
    let pages = c.args.self.now.map.entries in
    let number = c.in-Some.number in
    let there = c.in-Some.ensures.there in
    let before = c.loop-number.invariant.counted ∙ sym (to_page pages c.loop-number.next number there.0 there.1 c.in-Some.ensures.absent) in
    let answer = page_filled pages c.in-Some.page.now number c.is_filled.result c.is_filled.ensures.whole there.2 c.is_filled.ensures.filled in
    elim c.if-is_filled.branch [
      | then-is_filled w ↦ record {
        low = omega (arith, there.1);
        fits = omega (arith, there.0, c.loop-number.invariant.fits, w.count-is);
        counted = w.count-is ∙ ap (λ n. n + 1) before ∙ sym (one_more (byte_at pages) number (answer ∙ w.if-is_filled.true));
      }
      | else-is_filled w ↦ record {
        low = omega (arith, there.1);
        fits = omega (arith, there.0, c.loop-number.invariant.fits, w.count-is);
        counted = w.count-is ∙ before ∙ sym (no_more (byte_at pages) number (answer ∙ w.if-is_filled.false));
      }
    ]

pub returns-clause-count : goal.returns-clause-count
returns-clause-count c =
    c.loop-number.invariant.counted ∙ sym (to_end c.args.self.now.map.entries c.loop-number.next c.loop-number.invariant.low c.in_default.ensures.absent)
