use Rattle.tree_laws.proofs.TreesChanged as trees
use Rattle.tree_laws.proofs.written_bytes_keep_sound.Goals as goal

pub returns : goal.returns
returns c = trees.written_bytes_keep_sound
