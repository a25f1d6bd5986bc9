use Rattle.sound_files.proofs.Fresh as fresh
use Rattle.sound_files.proofs.fresh_files_are_sound.Goals as goal

pub returns : goal.returns
returns c = fresh.fresh_files_are_sound
