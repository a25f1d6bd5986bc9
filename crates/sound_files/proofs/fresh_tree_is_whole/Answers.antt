use Rattle.sound_files.proofs.Fresh as fresh
use Rattle.sound_files.proofs.fresh_tree_is_whole.Goals as goal

pub returns : goal.returns
returns c = fresh.fresh_tree_is_whole
