use Rattle.std.proofs.Common.{arith}
use Rattle.user_memory.proofs.Stores.{stored_copied, nothing_stored}
use Rattle.user_memory.proofs.pages.copy_stored.Goals as goal

pub returns-then-first-past : goal.returns-then-first-past
returns-then-first-past c = stored_copied c.args.bytes.now c.args.before.now c.copy_from_slice.new.self c.args.first c.args.past c.requires.same_length c.requires.within (omega arith) c.requires.front c.requires.back c.copy_from_slice.ensures.after

pub returns-else-first-past : goal.returns-else-first-past
returns-else-first-past c = nothing_stored c.args.bytes.now c.args.before.now c.args.first c.args.past c.requires.same_length (omega arith) c.requires.front c.requires.back
