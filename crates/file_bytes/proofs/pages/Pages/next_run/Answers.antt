use Rattle.std.proofs.Common.{arith, refl, ◌+◌}
use Rattle.file_bytes.specs.Pages.{byte_at}
use Rattle.file_bytes.proofs.NextRun.{passed, page_passed, first_of_all, rest_none}
use Rattle.file_bytes.proofs.pages.Pages.next_run.Goals as goal

pub returns-in-Some-run_in_page : goal.returns-in-Some-run_in_page
returns-in-Some-run_in_page c =
    let pages = c.args.self.now.map.entries in
    let clear = passed pages c.args.from c.loop-found.number c.in-Some.found c.loop-found.invariant.clear c.in-Some.ensures.there.1 c.in-Some.ensures.absent in
    first_of_all (byte_at pages) c.args.from c.in-Some.found _ clear (c.in-Some-run_in_page.ensures pages c.in-Some.ensures.there.2)

pub loop-found-preserved : goal.loop-found-preserved
loop-found-preserved c =
    let pages = c.args.self.now.map.entries in
    let there = c.in-Some.ensures.there in
    let clear = passed pages c.args.from c.loop-found.number c.in-Some.found c.loop-found.invariant.clear there.1 c.in-Some.ensures.absent in
    record {
      low = omega (arith, there.1);
      not_before = omega (arith, there.0, c.loop-found.invariant.not_before);
      clear = page_passed (byte_at pages) c.args.from c.in-Some.found (c.in-Some.found + 1) clear (c.in_default-run_in_page.ensures pages there.2) refl;
    }

pub returns : goal.returns
returns c = rest_none c.args.self.now.map.entries c.args.from c.loop-found.number c.loop-found.invariant.clear c.in_default.ensures.absent
