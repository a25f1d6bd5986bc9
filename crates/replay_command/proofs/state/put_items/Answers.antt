use Rattle.std.proofs.Common.{◌++◌, false}
use Rattle.native_kernel.specs.Items.{items, left}
use Rattle.replay_command.specs.StateText.{items_text}
use Rattle.replay_command.proofs.TextSteps.{items_go}
use Rattle.replay_command.proofs.state.put_items.Goals as goal

pub loop-item-preserved : goal.loop-item-preserved
loop-item-preserved c = items_go c.args.abi c.args.peak c.loop-item.is_behind c.in_ok-is_behind.is_behind c.in-Some.item (left c.args.kernel.now c.loop-item.cursor) (left c.args.kernel.now c.next_item.new.cursor) c.loop-item.out.items c.put_peak_before.new.out.items c.put_item.new.out.items (c.args.out.now.items ++ items_text c.args.abi c.args.peak false (items c.args.kernel.now)) (rw c.in-Some.is at c.in_ok-item.ensures) c.in_ok-is_behind.ensures.behind c.in_ok-is_behind.ensures.text c.in_ok-put_item.ensures c.loop-item.invariant
