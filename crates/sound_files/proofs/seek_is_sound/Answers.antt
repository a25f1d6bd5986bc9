use Rattle.sound_files.proofs.Transfers as transfers
use Rattle.sound_files.proofs.seek_is_sound.Goals as goal

pub returns : goal.returns
returns c = transfers.seek_is_sound
