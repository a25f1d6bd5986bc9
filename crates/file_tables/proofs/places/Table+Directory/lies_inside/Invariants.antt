-- what is left to climb gives what the whole gives
use Rattle.std.proofs.Common.{◌≡◌, ◌-◌, length}
use Rattle.file_tables.specs.Places.{is_inside}
use Rattle.file_tables.proofs.places.Table+Directory.lies_inside.Given as goal

abbrev pub invariant-loop-step : goal.invariant-loop-step
invariant-loop-step l = is_inside l.self l.inode l.above (length l.self - l.step) ≡ is_inside l.self l.inode l.place (length l.self)
