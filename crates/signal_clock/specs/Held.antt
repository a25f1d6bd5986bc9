-- What a process has of masks and actions: SIGKILL, 9, and SIGSTOP, 19, are in no mask, and their actions stay the default.
use Rattle.std.specs.Prelude.{◌≡◌, ℕ, ◌-◌, ◌==◌, ◌||◌, Bool, false, List, slice_get, unwrap_or}
use Rattle.kernel_values.specs.declared.signals.Action.{Action}
use Rattle.signal_clock.specs.Sets.{has}

abbrev pub default_action : Action
default_action = record { handler = 0; flags = 0; restorer = 0; mask = record { bits = 0 } }

-- the action of a signal
abbrev pub action_at : List Action → ℕ → Action
action_at actions signal = unwrap_or (slice_get actions (signal - 1)) default_action

-- the action of SIGKILL and SIGSTOP stays the default
abbrev pub is_fixed : ℕ → Bool
is_fixed signal = (signal == 9) || (signal == 19)

-- a set without both
abbrev pub HasNeither : ℕ → Type 0
HasNeither set = (has set 9 ≡ false) × (has set 19 ≡ false)

-- no mask of an action has them, and they do their default
abbrev pub AreSafe : List Action → Type 0
AreSafe actions = ((signal : ℕ) → HasNeither (action_at actions signal).mask.bits) × (action_at actions 9 ≡ default_action) × (action_at actions 19 ≡ default_action)
