use Rattle.sound_files.proofs.Names as names
use Rattle.sound_files.proofs.remove_directory_is_sound.Goals as goal

pub returns : goal.returns
returns c = names.remove_directory_is_sound
