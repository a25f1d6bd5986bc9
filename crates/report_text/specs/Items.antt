-- The lines that tell the kernel's state, item by item.
use Rattle.std.specs.Prelude.{ℕ, Bool, true, false, List, [], ◌∷◌, codes}
use Rattle.kernel_values.specs.declared.abi.AbiKind.{AbiKind}
use Rattle.kernel_values.specs.declared.items.StateItem.{StateItem}
use Rattle.kernel_values.specs.declared.items.StateItem.TheVariants as item
use Rattle.report_text.specs.Fields.{numbers_line}
use Rattle.report_text.specs.Clocks.{clock_text, ended_text, timer_text}
use Rattle.report_text.specs.Limits.{limit_text}
use Rattle.report_text.specs.Signals.{action_text, alt_text, mask_text, pending_text}
use Rattle.report_text.specs.Tree.{content_text, cwd_text, lock_text, name_text, node_text}
use Rattle.report_text.specs.OpenFiles.{fd_text, open_text, pipe_text}
use Rattle.report_text.specs.Sockets.{backlog_text, bound_text, message_text, socket_text, timeouts_text, wait_text}
use Rattle.report_text.specs.Rules.{rule_text, table_text}

-- the line of an item, for a process of this kind
unfoldable pub item_text : AbiKind → StateItem → List ℕ
item_text abi (item.Clock c) = clock_text c
item_text abi (item.Ended e) = ended_text e
item_text abi (item.Timer t) = timer_text t
item_text abi (item.Mask m) = mask_text m
item_text abi (item.AltStack a) = alt_text a
item_text abi (item.Action a) = action_text a
item_text abi (item.Pending p) = pending_text p
item_text abi (item.Limit l) = limit_text l
item_text abi (item.Working w) = cwd_text w
item_text abi (item.Node n) = node_text n
item_text abi (item.Name n) = name_text n
item_text abi (item.Bytes b) = content_text b
item_text abi (item.Lock l) = lock_text l
item_text abi (item.Descriptor d) = fd_text d
item_text abi (item.OpenFile o) = open_text abi o
item_text abi (item.Socket s) = socket_text abi s
item_text abi (item.Bound b) = bound_text b
item_text abi (item.Timeouts t) = timeouts_text t
item_text abi (item.Backlog b) = backlog_text b
item_text abi (item.Waiting w) = wait_text w
item_text abi (item.Message m) = message_text m
item_text abi (item.Pipe p) = pipe_text p
item_text abi (item.Table t) = table_text t
item_text abi (item.Rule r) = rule_text r

-- whether an item stands above the line of the peak
unfoldable pub is_front : StateItem → Bool
is_front (item.Clock c) = true
is_front (item.Ended e) = true
is_front (item.Timer t) = false
is_front (item.Mask m) = false
is_front (item.AltStack a) = false
is_front (item.Action a) = false
is_front (item.Pending p) = false
is_front (item.Limit l) = false
is_front (item.Working w) = false
is_front (item.Node n) = false
is_front (item.Name n) = false
is_front (item.Bytes b) = false
is_front (item.Lock l) = false
is_front (item.Descriptor d) = false
is_front (item.OpenFile o) = false
is_front (item.Socket s) = false
is_front (item.Bound b) = false
is_front (item.Timeouts t) = false
is_front (item.Backlog b) = false
is_front (item.Waiting w) = false
is_front (item.Message m) = false
is_front (item.Pipe p) = false
is_front (item.Table t) = false
is_front (item.Rule r) = false

-- the line of the peak: the most bytes that the translation of a call took
unfoldable pub peak_line : ℕ → List ℕ
peak_line peak = numbers_line (codes "peak") (peak ∷ [])
