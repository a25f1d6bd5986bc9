use Rattle.sound_files.proofs.Simple as simple
use Rattle.sound_files.proofs.change_directory_is_sound.Goals as goal

pub returns : goal.returns
returns c = simple.change_directory_is_sound
