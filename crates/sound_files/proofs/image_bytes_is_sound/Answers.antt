use Rattle.sound_files.proofs.Fresh as fresh
use Rattle.sound_files.proofs.image_bytes_is_sound.Goals as goal

pub returns : goal.returns
returns c = fresh.image_bytes_is_sound
