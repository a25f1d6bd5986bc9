use Rattle.sound_files.proofs.Simple as simple
use Rattle.sound_files.proofs.copy_is_sound.Goals as goal

pub returns : goal.returns
returns c = simple.copy_is_sound
