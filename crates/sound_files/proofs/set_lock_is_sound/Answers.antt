use Rattle.sound_files.proofs.Locks as locks
use Rattle.sound_files.proofs.set_lock_is_sound.Goals as goal

pub returns : goal.returns
returns c = locks.set_lock_is_sound
