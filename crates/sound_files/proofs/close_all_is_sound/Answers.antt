use Rattle.sound_files.proofs.Closed as closed
use Rattle.sound_files.proofs.close_all_is_sound.Goals as goal

pub returns : goal.returns
returns c = closed.close_all_is_sound
