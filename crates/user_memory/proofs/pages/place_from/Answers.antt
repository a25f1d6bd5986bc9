use Rattle.user_memory.proofs.Places.{from_place, from_gap}
use Rattle.user_memory.proofs.pages.place_from.Goals as goal

pub returns-in-Ok : goal.returns-in-Ok
returns-in-Ok c = from_place c.args.pages.now c.args.number c.in-Ok.place c.requires c.in-Ok.ensures.found

pub returns-in-Err : goal.returns-in-Err
returns-in-Err c = from_gap c.args.pages.now c.args.number c.in-Err.place c.in-Err.ensures.absent
