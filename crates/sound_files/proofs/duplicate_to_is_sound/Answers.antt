use Rattle.sound_files.proofs.Closed as closed
use Rattle.sound_files.proofs.duplicate_to_is_sound.Goals as goal

pub returns : goal.returns
returns c = closed.duplicate_to_is_sound
