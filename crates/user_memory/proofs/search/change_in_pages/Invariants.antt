use Rattle.std.proofs.Common.{Option, drop}
use Rattle.user_memory.specs.declared.change.Change.{Change}
use Rattle.user_memory.specs.Pages.{IsAscending}
use Rattle.user_memory.specs.Changes.{IsNext}
use Rattle.user_memory.specs.States.{states_of}
use Rattle.user_memory.proofs.search.change_in_pages.Given as goal

-- the pages so far have no change: what is next in the rest is next in all
abbrev pub invariant-loop-page : goal.invariant-loop-page
invariant-loop-page l = record {
  ascending : IsAscending (states_of (drop l.page-index l.pages));
  next : (r : Option Change) → IsNext (states_of (drop l.page-index l.pages)) l.from r → IsNext (states_of l.pages) l.from r;
}
