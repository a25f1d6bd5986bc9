use Rattle.std.proofs.Common.{◌-◌, arith}
use Rattle.user_memory.proofs.StoredPlaces.{ascending_part, stores_part, stores_put, cleared_nowhere, cleared_part}
use Rattle.user_memory.proofs.pages.clear_stored.Goals as goal

pub clear_all-requires-clause-ascending : goal.clear_all-requires-clause-ascending
clear_all-requires-clause-ascending c = ascending_part c.args.pages.now c.args.first (c.args.past - c.args.first) c.requires.ascending

pub clear_all-requires-clause-stores : goal.clear_all-requires-clause-stores
clear_all-requires-clause-stores c = stores_part c.args.pages.now c.args.first (c.args.past - c.args.first) c.requires.stores

pub returns-then-first-past-clause-states : goal.returns-then-first-past-clause-states
returns-then-first-past-clause-states c = cleared_part c.args.pages.now c.clear_all.new.pages c.args.first c.args.past (omega arith) c.requires.places c.clear_all.ensures.states

pub returns-then-first-past-clause-stores : goal.returns-then-first-past-clause-stores
returns-then-first-past-clause-stores c = stores_put c.args.pages.now c.clear_all.new.pages c.args.first (c.args.past - c.args.first) c.requires.stores c.clear_all.ensures.stores

pub returns-else-first-past-clause-states : goal.returns-else-first-past-clause-states
returns-else-first-past-clause-states c = cleared_nowhere c.args.pages.now c.args.first c.args.past (omega arith) c.requires.places
