use Rattle.sound_files.proofs.Names as names
use Rattle.sound_files.proofs.rename_is_sound.Goals as goal

pub returns : goal.returns
returns c = names.rename_is_sound
