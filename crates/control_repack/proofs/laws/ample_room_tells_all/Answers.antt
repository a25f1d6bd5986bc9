use Rattle.control_repack.proofs.Telling.{ample}
use Rattle.control_repack.proofs.laws.ample_room_tells_all.Goals as goal

pub returns : goal.returns
returns c = ample
