use Rattle.std.proofs.Common.{◌≡◌, ◌++◌, false, length}
use Rattle.native_kernel.specs.Items.{items, left}
use Rattle.replay_command.specs.StateText.{items_text}
use Rattle.replay_command.proofs.state.put_items.Given as goal

abbrev pub invariant-loop-item : goal.invariant-loop-item
invariant-loop-item l = l.out.items ++ items_text l.abi l.peak l.is_behind (left l.kernel l.cursor) ≡ l.fn.out.items ++ items_text l.abi l.peak false (items l.kernel)

abbrev pub decreases-loop-item : goal.decreases-loop-item
decreases-loop-item l = length (left l.kernel l.cursor)
