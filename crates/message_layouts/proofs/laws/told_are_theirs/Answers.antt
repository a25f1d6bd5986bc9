use Rattle.message_layouts.proofs.Further.{are_told, told_are}
use Rattle.message_layouts.proofs.laws.told_are_theirs.Goals as goal

pub returns : goal.returns
returns c word cs bytes some = record { told = are_told word cs bytes some; theirs = told_are word cs bytes some }
