-- What is told of the state: one list of items, and what of it is left at a cursor.
use Rattle.std.specs.Prelude.{◌≡◌, ℕ, ◌+◌, ◌==◌, ◌&&◌, Bool, List, [], ◌∷◌, ◌++◌, drop, Option, Some, None, MatchOption, Result, Ok, Err, if◌then◌else◌}
use Rattle.kernel_values.specs.declared.errno.OutOfMemory.{OutOfMemory}
use Rattle.kernel_values.specs.declared.process_end.End.{End}
use Rattle.kernel_values.specs.declared.times.Limit.{Limit}
use Rattle.kernel_values.specs.declared.items.StateItem.{StateItem}
use Rattle.kernel_values.specs.declared.items.StateItem.TheVariants as item
use Rattle.file_store.specs.Items.{file_items, files_left}
use Rattle.signal_clock.specs.Items.{signals_left}
use Rattle.signal_clock.specs.declared.items.SignalCursor.{SignalCursor}
use Rattle.signal_clock.specs.declared.items.SignalCursor.TheVariants as signal
use Rattle.native_kernel.specs.Limits.{starting_limit}
use Rattle.native_kernel.specs.declared.items.StateCursor.{StateCursor}
use Rattle.native_kernel.specs.declared.items.StateCursor.TheVariants as cursor
use Rattle.native_kernel.specs.declared.state.Kernel.{Kernel}

abbrev pub ended_items : Option End → List StateItem
ended_items None = []
ended_items (Some end) = item.Ended end ∷ []

-- whether a limit is as at the start
abbrev pub is_starting : ℕ → Limit → Bool
is_starting resource l = (l.soft == (starting_limit resource).soft) && (l.hard == (starting_limit resource).hard)

-- each limit that isn't as at the start, the first of them with this number
unfoldable pub limit_items : ℕ → List Limit → List StateItem
limit_items resource [] = []
limit_items resource (l ∷ ls) = if is_starting resource l then limit_items (resource + 1) ls else item.Limit (record { resource = resource; limit = l }) ∷ limit_items (resource + 1) ls

-- what is left of a part is followed by all of the later parts
abbrev pub limits_left : Kernel → ℕ → List StateItem
limits_left k resource = limit_items resource (drop resource k.limits.held) ++ file_items k.files

abbrev pub signals_on : Kernel → SignalCursor → List StateItem
signals_on k c = signals_left k.clocks k.signals c ++ limits_left k 0

abbrev pub ended_left : Kernel → List StateItem
ended_left k = ended_items k.ended ++ signals_on k signal.Timer

-- the state, item by item, in the order of a report
unfoldable pub items : Kernel → List StateItem
items k = item.Clock (record { real = k.clocks.real; monotonic = k.clocks.monotonic }) ∷ ended_left k

-- the items that are left at a cursor
unfoldable pub left : Kernel → StateCursor → List StateItem
left k cursor.Clocks = items k
left k cursor.Ended = ended_left k
left k (cursor.Signals c) = signals_on k c
left k (cursor.Limits resource) = limits_left k resource
left k (cursor.Files c) = files_left k.files c

-- the next item was told, and the cursor is at those behind it; after want of memory it is as before
abbrev pub TellsNext : Kernel → StateCursor → Result (Option StateItem) OutOfMemory → StateCursor → Type 0
TellsNext k old (Ok told) new = MatchOption told ((left k old ≡ []) × (new ≡ old)) (λ x. left k old ≡ x ∷ left k new)
TellsNext k old (Err e) new = new ≡ old
