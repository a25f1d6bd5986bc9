use Rattle.sound_files.proofs.Transfers as transfers
use Rattle.sound_files.proofs.write_is_sound.Goals as goal

pub returns : goal.returns
returns c = transfers.write_is_sound
