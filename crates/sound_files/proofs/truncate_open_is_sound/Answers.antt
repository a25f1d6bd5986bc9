use Rattle.sound_files.proofs.Simple as simple
use Rattle.sound_files.proofs.truncate_open_is_sound.Goals as goal

pub returns : goal.returns
returns c = simple.truncate_open_is_sound
