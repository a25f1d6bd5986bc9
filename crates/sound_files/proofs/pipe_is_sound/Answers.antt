use Rattle.sound_files.proofs.Names as names
use Rattle.sound_files.proofs.pipe_is_sound.Goals as goal

pub returns : goal.returns
returns c = names.pipe_is_sound
