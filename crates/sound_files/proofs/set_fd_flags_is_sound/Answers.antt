use Rattle.sound_files.proofs.Simple as simple
use Rattle.sound_files.proofs.set_fd_flags_is_sound.Goals as goal

pub returns : goal.returns
returns c = simple.set_fd_flags_is_sound
