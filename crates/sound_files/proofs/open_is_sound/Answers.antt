use Rattle.sound_files.proofs.Opening as opening
use Rattle.sound_files.proofs.open_is_sound.Goals as goal

pub returns : goal.returns
returns c = opening.open_is_sound
