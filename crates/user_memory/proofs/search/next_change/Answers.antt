use Rattle.std.proofs.Common.{◌-◌, arith}
use Rattle.user_memory.proofs.StoredPlaces.{ascending_part, stores_part, next_part, next_nowhere}
use Rattle.user_memory.proofs.search.next_change.Goals as goal

pub returns-then-begin-past : goal.returns-then-begin-past
returns-then-begin-past c = next_nowhere c.args.pages.now c.args.first c.args.past c.args.from c.place_from.result c.max-begin.result c.requires.ascending c.requires.places c.place_from.ensures c.max-begin.ensures (omega arith)

pub change_in_pages-requires-clause-ascending : goal.change_in_pages-requires-clause-ascending
change_in_pages-requires-clause-ascending c = ascending_part c.args.pages.now c.max-begin.result (c.args.past - c.max-begin.result) c.requires.ascending

pub change_in_pages-requires-clause-stores : goal.change_in_pages-requires-clause-stores
change_in_pages-requires-clause-stores c = stores_part c.args.pages.now c.max-begin.result (c.args.past - c.max-begin.result) c.requires.stores

pub returns : goal.returns
returns c = next_part c.args.pages.now c.args.first c.args.past c.args.from c.place_from.result c.max-begin.result (c.args.past - c.max-begin.result) c.change_in_pages.result c.requires.ascending c.requires.places c.place_from.ensures c.max-begin.ensures (omega arith) c.change_in_pages.ensures
