use Rattle.sound_files.proofs.Simple as simple
use Rattle.sound_files.proofs.allocate_is_sound.Goals as goal

pub returns : goal.returns
returns c = simple.allocate_is_sound
