use Rattle.std.proofs.Common.{◌≡◌, ◌++◌, take, drop}
use Rattle.std.specs.Prelude.{All}
use Rattle.user_memory.specs.Pages.{marked, IsAscending}
use Rattle.user_memory.specs.States.{states_of, TellsStores}
use Rattle.user_memory.proofs.pages.clear_all.Given as goal

abbrev pub invariant-loop-page : goal.invariant-loop-page
invariant-loop-page l = record {
  ascending : IsAscending (drop l.page-index (states_of l.pages));
  so_far : take l.page-index (states_of l.pages) ++ marked (drop l.page-index (states_of l.pages)) ≡ marked (states_of l.fn.pages);
  stores : All TellsStores l.pages;
}
