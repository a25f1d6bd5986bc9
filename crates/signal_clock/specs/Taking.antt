-- How waiting signals are taken.
use Rattle.std.specs.Prelude.{ℕ, ◌-◌, ◌==◌, not, ◌&&◌, Bool, List, [], ◌∷◌, Option, Some, None, slice_set, replicate, if◌then◌else◌}
use Rattle.std.specs.Int.RustNames.{bit_and, bit_or}
use Rattle.std.specs.List.{list_any}
use Rattle.kernel_values.specs.declared.signals.Action.{Action}
use Rattle.kernel_values.specs.declared.signals.SigInfo.{SigInfo}
use Rattle.signal_clock.specs.Actions.{is_ignored}
use Rattle.signal_clock.specs.Held.{action_at, default_action}
use Rattle.signal_clock.specs.Sets.{has, only}
use Rattle.signal_clock.specs.Stacks.{no_stack}
use Rattle.signal_clock.specs.declared.state.Signals.{Signals}
use Rattle.signal_clock.specs.declared.values.Taken.{Taken}

-- of a new process no signal waits or is blocked, and each does its default
unfoldable pub fresh_signals : Signals
fresh_signals = record { mask = 0; actions = replicate 64 default_action; alt = no_stack; waiting = [] }

-- a signal that is neither blocked nor ignored is delivered
abbrev pub is_deliverable : ℕ → List Action → ℕ → Bool
is_deliverable mask actions signal = not (has mask signal) && not (is_ignored actions signal)

abbrev pub delivers : ℕ → List Action → SigInfo → Bool
delivers mask actions w = is_deliverable mask actions w.signal

-- a signal waits that is delivered
abbrev pub has_deliverable : Signals → Bool
has_deliverable s = list_any (delivers s.mask s.actions) s.waiting

abbrev pub waiting_before : SigInfo → Option SigInfo × List SigInfo → Option SigInfo × List SigInfo
waiting_before w met = (met.0, w ∷ met.1)

-- the first that is delivered, and those that wait on: blocked ones are passed over, and ignored ones dropped
unfoldable pub met : ℕ → List Action → List SigInfo → Option SigInfo × List SigInfo
met mask actions [] = (None, [])
met mask actions (w ∷ ws) =
    if has mask w.signal then waiting_before w (met mask actions ws)
    else (if is_ignored actions w.signal then met mask actions ws else (Some w, ws))

abbrev pub has_flag : Action → ℕ → Bool
has_flag action flag = not (bit_and action.flags flag == 0)

-- SA_RESETHAND gives the signal its default again, with all else of its action
abbrev pub reset_actions : List Action → ℕ → Action → List Action
reset_actions actions signal action = if has_flag action 0x80000000 then slice_set actions (signal - 1) (record action { handler = 0 }) else actions

-- without SA_NODEFER a signal is blocked while its own handler runs
abbrev pub own_mask : ℕ → Action → ℕ
own_mask signal action = if has_flag action 0x40000000 then 0 else only signal

-- the mask gains that of the action, and the signal itself
abbrev pub handler_mask : ℕ → ℕ → Action → ℕ
handler_mask mask signal action = bit_or (bit_or mask action.mask.bits) (own_mask signal action)

-- a handler begins; where there is none, the process ends and nothing of this changes
abbrev pub begun : Signals → ℕ → Action → Signals
begun s signal action = if action.handler == 0 then s else record s {
  mask = handler_mask s.mask signal action;
  actions = reset_actions s.actions signal action;
}

-- what is told of a signal that was taken: its action, the mask before it, and whether it ends the process
abbrev pub taken : Signals → SigInfo → Action → Taken
taken s info action = record { info = info; action = action; mask_before = record { bits = s.mask }; end = action.handler == 0 }

abbrev pub taken_of : Signals → Option SigInfo × List SigInfo → Option Taken × Signals
taken_of s (None, left) = (None, record s { waiting = left })
taken_of s (Some info, left) =
    (Some (taken s info (action_at s.actions info.signal)), begun (record s { waiting = left }) info.signal (action_at s.actions info.signal))

-- the next signal is taken, if there is one
unfoldable pub next_signal : Signals → Option Taken × Signals
next_signal s = taken_of s (met s.mask s.actions s.waiting)
