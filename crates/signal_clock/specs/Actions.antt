-- What signals do to a process.
use Rattle.std.specs.Prelude.{ℕ, ◌-◌, ℤ, pos, nat_abs, int_lt, ◌==◌, ◌&&◌, ◌||◌, nat_le, Bool, List, Option, Some, None, Result, Ok, Err, is_some, slice_set, if◌then◌else◌}
use Rattle.kernel_values.specs.Outcome.{◌>>=◌, ◌>>◌, refused_if, settled}
use Rattle.kernel_values.specs.declared.errno.Errno.{Errno}
use Rattle.kernel_values.specs.declared.errno.Errno.TheVariants.{InvalidArgument}
use Rattle.kernel_values.specs.declared.signals.Action.{Action}
use Rattle.signal_clock.specs.Held.{action_at, is_fixed}
use Rattle.signal_clock.specs.Sets.{blockable}
use Rattle.signal_clock.specs.Waiting.{without}
use Rattle.signal_clock.specs.declared.state.Signals.{Signals}

-- SIGCHLD 17 to SIGURG 23 and SIGWINCH 28, the stop signals among them, since there is no job control; by default all
-- others end the process
abbrev pub is_ignored_by_default : ℕ → Bool
is_ignored_by_default signal = (nat_le 17 signal && nat_le signal 23) || (signal == 28)

-- handler 1 ignores a signal, and handler 0 where that is its default
abbrev pub ignores : Action → ℕ → Bool
ignores action signal = (action.handler == 1) || ((action.handler == 0) && is_ignored_by_default signal)

abbrev pub is_ignored : List Action → ℕ → Bool
is_ignored actions signal = ignores (action_at actions signal) signal

-- signals are 1 to 64
abbrev pub signal_named : ℤ → Result ℕ Errno
signal_named n = if int_lt n (pos 1) || int_lt (pos 64) n then Err InvalidArgument else Ok (nat_abs n)

abbrev pub with_action : Signals → ℕ → Action → Signals
with_action s signal a = record s { actions = slice_set s.actions (signal - 1) (record a { mask = record { bits = blockable a.mask.bits } }) }

-- an action that ignores a signal drops it where it waits, blocked or not
abbrev pub dropped : Signals → ℕ → Bool → Signals
dropped s signal drops = if drops then record s { waiting = without s.waiting signal } else s

abbrev pub acted : Signals → ℕ → Option Action → Signals
acted s signal None = s
acted s signal (Some new) = dropped (with_action s signal new) signal (ignores new signal)

-- sigaction tells the action as it was
unfoldable pub change_action : Signals → ℤ → Option Action → Result Action Errno × Signals
change_action s n new = settled s (do
  signal ← signal_named n
  refused_if (is_some new && is_fixed signal) InvalidArgument
  Ok (action_at s.actions signal, acted s signal new))
