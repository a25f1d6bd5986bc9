use Rattle.std.proofs.Common.{arith, get_or}
use Rattle.std.proofs.lemmas.List.{get_or_default}
use Rattle.std.proofs.lemmas.List.Elements.{All-set}
use Rattle.user_memory.specs.Pages.{marked}
use Rattle.user_memory.specs.States.{states_of, TellsStores}
use Rattle.user_memory.proofs.Clears.{clear_turn, clear_end, ascending_more, page_sizes}
use Rattle.user_memory.proofs.pages.clear_all.Goals as goal

pub clear-requires-clause-same_length : goal.clear-requires-clause-same_length
clear-requires-clause-same_length c = page_sizes c.loop-page.pages c.loop-page.page-index (get_or c.loop-page.pages c.loop-page.page-index c.page-item.result) (omega arith) (get_or_default c.loop-page.pages c.loop-page.page-index _ _ (omega arith)) c.loop-page.invariant.ascending

pub loop-page-preserved : goal.loop-page-preserved
loop-page-preserved c =
    let p = get_or c.loop-page.pages c.loop-page.page-index c.page-item.result in
    record {
      ascending = ascending_more c.loop-page.pages c.loop-page.page-index p c.clear.new.page (omega arith) (get_or_default c.loop-page.pages c.loop-page.page-index _ _ (omega arith)) c.loop-page.invariant.ascending;
      so_far = clear_turn c.loop-page.pages c.loop-page.page-index p c.clear.new.page (marked (states_of c.args.pages.now)) (omega arith) (get_or_default c.loop-page.pages c.loop-page.page-index _ _ (omega arith)) c.clear.ensures.state c.loop-page.invariant.so_far;
      stores = All-set TellsStores c.loop-page.pages c.loop-page.page-index c.clear.new.page c.clear.ensures.stores c.loop-page.invariant.stores;
    }

pub returns-clause-states : goal.returns-clause-states
returns-clause-states c = clear_end c.loop-page.pages c.loop-page.page-index (marked (states_of c.args.pages.now)) (omega arith) c.loop-page.invariant.so_far
