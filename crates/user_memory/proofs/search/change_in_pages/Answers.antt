use Rattle.std.proofs.Common.{arith, subst, sym, Some, None, drop, ◌+◌}
use Rattle.user_memory.specs.States.{states_of, TellsStores}
use Rattle.user_memory.specs.declared.page.Page.{Page}
use Rattle.user_memory.proofs.NextChange.{found, passed, ascending_first, ascending_rest, ascending_at, next_at, next_end}
use Rattle.user_memory.proofs.search.change_in_pages.Goals as goal

pub change_in-requires-clause-ascending : goal.change_in-requires-clause-ascending
change_in-requires-clause-ascending c = ascending_first _ (states_of (drop (c.loop-page.page-index + 1) c.args.pages.now)) (ascending_at c.args.pages.now c.loop-page.page-index c.page-item.result (omega arith) c.page-item.is c.loop-page.invariant.ascending)

pub change_in-requires-clause-stores : goal.change_in-requires-clause-stores
change_in-requires-clause-stores c = subst (λ (p : Page). TellsStores p) (sym c.page-item.is) (c.requires.stores c.loop-page.page-index c.page-item.result (omega arith))

pub returns-in-Some : goal.returns-in-Some
returns-in-Some c =
    let asc = ascending_at c.args.pages.now c.loop-page.page-index c.page-item.result (omega arith) c.page-item.is c.loop-page.invariant.ascending in
    c.loop-page.invariant.next (Some c.in-Some.change) (next_at c.args.pages.now c.loop-page.page-index c.args.from c.page-item.result (Some c.in-Some.change) (omega arith) c.page-item.is (found _ _ c.args.from c.in-Some.change asc c.in-Some.ensures))

pub loop-page-preserved : goal.loop-page-preserved
loop-page-preserved c =
    let asc = ascending_at c.args.pages.now c.loop-page.page-index c.page-item.result (omega arith) c.page-item.is c.loop-page.invariant.ascending in
    record {
      ascending = ascending_rest _ _ asc;
      next = λ r h. c.loop-page.invariant.next r (next_at c.args.pages.now c.loop-page.page-index c.args.from c.page-item.result r (omega arith) c.page-item.is (passed _ _ c.args.from r asc c.in_default.ensures h));
    }

pub returns : goal.returns
returns c = c.loop-page.invariant.next None (next_end c.args.pages.now c.loop-page.page-index c.args.from (omega arith))
