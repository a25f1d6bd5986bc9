use Rattle.std.proofs.Common.{◌==◌, rules, tests}
use Rattle.std.proofs.lemmas.Iterator.Search.{find_from_yields_List}
use Rattle.std.proofs.lemmas.Iterator.Consumers.{YieldsList-from_rest}
use Rattle.file_tables.specs.Entries.{entry_for}
use Rattle.file_tables.specs.declared.state.Entry.{Entry}
use Rattle.file_tables.proofs.table.Table+Entry.find_child.Goals as goal

pub returns : goal.returns
unfolding entry_for
returns c = find_from_yields_List (λ (e : Entry). e.child == c.args.child) _ _ _ c.find.ensures.ran (YieldsList-from_rest _ cc) (λ x b q k. search (rules, tests))
