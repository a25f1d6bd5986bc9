use Rattle.sound_files.proofs.Names as names
use Rattle.sound_files.proofs.make_directory_is_sound.Goals as goal

pub returns : goal.returns
returns c = names.make_directory_is_sound
