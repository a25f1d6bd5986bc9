use Rattle.sound_files.proofs.Sending as sending
use Rattle.sound_files.proofs.send_file_is_sound.Goals as goal

pub returns : goal.returns
returns c = sending.send_file_is_sound
