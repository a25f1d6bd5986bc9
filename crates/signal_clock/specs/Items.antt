-- What is told of the timer and of signals: one list of items, and what of it is left at a cursor.
use Rattle.std.specs.Prelude.{ℕ, ◌+◌, ◌==◌, List, [], ◌∷◌, ◌++◌, drop, map, Option, Some, None, if◌then◌else◌}
use Rattle.kernel_values.specs.declared.items.StateItem.{StateItem}
use Rattle.kernel_values.specs.declared.items.StateItem.TheVariants as item
use Rattle.kernel_values.specs.declared.signals.Action.{Action}
use Rattle.kernel_values.specs.declared.signals.AltStack.{AltStack}
use Rattle.kernel_values.specs.declared.signals.SigInfo.{SigInfo}
use Rattle.signal_clock.specs.ClockState.{ClockState}
use Rattle.signal_clock.specs.declared.items.SignalCursor.{SignalCursor}
use Rattle.signal_clock.specs.declared.items.SignalCursor.TheVariants as cursor
use Rattle.signal_clock.specs.declared.state.Signals.{Signals}
use Rattle.signal_clock.specs.declared.values.Timer.{Timer}

abbrev pub timer_items : Option Timer → List StateItem
timer_items None = []
timer_items (Some t) = item.Timer (record { end = t.end; interval = t.interval }) ∷ []

abbrev pub mask_items : ℕ → List StateItem
mask_items mask = if mask == 0 then [] else item.Mask (record { bits = mask }) ∷ []

abbrev pub stack_items : AltStack → List StateItem
stack_items stack = if stack.size == 0 then [] else item.AltStack stack ∷ []

-- each action that isn't the default, the first of them of the signal behind this number
unfoldable pub action_items : ℕ → List Action → List StateItem
action_items before [] = []
action_items before (a ∷ later) = if a.handler == 0 then action_items (before + 1) later else item.Action (record { signal = before + 1; action = a }) ∷ action_items (before + 1) later

abbrev pub pending_item : SigInfo → StateItem
pending_item info = item.Pending info

-- what is left of a part is followed by all of the later parts
abbrev pub pending_left : Signals → ℕ → List StateItem
pending_left s place = map pending_item (drop place s.waiting)

abbrev pub actions_left : Signals → ℕ → List StateItem
actions_left s place = action_items place (drop place s.actions) ++ pending_left s 0

abbrev pub stack_left : Signals → List StateItem
stack_left s = stack_items s.alt ++ actions_left s 0

abbrev pub mask_left : Signals → List StateItem
mask_left s = mask_items s.mask ++ stack_left s

-- the items that are left at a cursor
unfoldable pub signals_left : ClockState → Signals → SignalCursor → List StateItem
signals_left c s cursor.Timer = timer_items c.timer ++ mask_left s
signals_left c s cursor.Mask = mask_left s
signals_left c s cursor.Stack = stack_left s
signals_left c s (cursor.Actions place) = actions_left s place
signals_left c s (cursor.Pending place) = pending_left s place
