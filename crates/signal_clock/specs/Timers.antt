-- The interval timer ITIMER_REAL, which runs on the monotonic clock.
use Rattle.std.specs.Prelude.{ℕ, ℤ, pos, nat_abs, int_lt, ◌+◌, ◌-◌, ◌*◌, ◌/◌, max, ◌==◌, ◌||◌, not, nat_le, Bool, false, Option, Some, None, Result, Ok, if◌then◌else◌}
use Rattle.std.specs.Ordering.{int_eq}
use Rattle.kernel_values.specs.Outcome.{◌>>◌, refused_if, settled}
use Rattle.kernel_values.specs.Times.{micros_of}
use Rattle.kernel_values.specs.declared.errno.Errno.{Errno}
use Rattle.kernel_values.specs.declared.errno.Errno.TheVariants.{InvalidArgument}
use Rattle.kernel_values.specs.declared.times.TimeVal.{TimeVal}
use Rattle.kernel_values.specs.declared.times.TimerValue.{TimerValue}
use Rattle.signal_clock.specs.ClockState.{ClockState}
use Rattle.signal_clock.specs.Clocks.{moved}
use Rattle.signal_clock.specs.declared.values.Timer.{Timer}

-- the seconds are negative or above 2^31 - 1, or the microseconds no part of a second
abbrev pub is_bad_value : TimeVal → Bool
is_bad_value v = int_lt v.seconds (pos 0) || int_lt (pos 0x7fffffff) v.seconds || int_lt v.micros (pos 0) || int_lt (pos 999999) v.micros

abbrev pub nanos_of : TimeVal → ℕ
nanos_of v = nat_abs v.seconds * 1000000000 + nat_abs v.micros * 1000

-- a timer set now; a value of 0 disarms it, whatever the interval
abbrev pub armed : ℕ → TimerValue → Option Timer
armed now v = if nanos_of v.value == 0 then None else Some (record { end = now + nanos_of v.value; interval = nanos_of v.interval })

-- a timer that isn't armed
abbrev pub no_timer : TimerValue
no_timer = record { interval = micros_of 0; value = micros_of 0 }

-- its interval, and the rest of its time in whole microseconds, of which there is at least one
abbrev pub told_timer : Option Timer → ℕ → TimerValue
told_timer None now = no_timer
told_timer (Some t) now = record { interval = micros_of t.interval; value = micros_of (max 1000 (t.end - now)) }

-- getitimer asks for ITIMER_REAL, 0, alone
abbrev pub tell_timer : ClockState → ℤ → Result TimerValue Errno
tell_timer c which = do
  refused_if (not (int_eq which (pos 0))) InvalidArgument
  Ok (told_timer c.timer c.monotonic)

-- setitimer tells the timer as it was
abbrev pub set_timer : ClockState → ℤ → TimerValue → Result TimerValue Errno × ClockState
set_timer c which v = settled c (do
  refused_if (not (int_eq which (pos 0))) InvalidArgument
  refused_if (is_bad_value v.interval || is_bad_value v.value) InvalidArgument
  Ok (told_timer c.timer c.monotonic, record c { timer = armed c.monotonic v }))

-- a timer's end moved on past now: by as many whole intervals as lie up to now, and one more
abbrev pub next_end : Timer → ℕ → ℕ
next_end t now = t.end + (now - t.end) / t.interval * t.interval + t.interval

-- a timer that fired by now: its end moves on past now, or it stops
abbrev pub fired : Timer → ℕ → Option Timer
fired t now = if t.interval == 0 then None else Some (record t { end = next_end t now })

-- whether now is a timer's end, or past it
abbrev pub is_due : Option Timer → ℕ → Bool
is_due None now = false
is_due (Some t) now = nat_le t.end now

-- the timer when the monotonic clock has come to now
abbrev pub timer_by : Option Timer → ℕ → Option Timer
timer_by None now = None
timer_by (Some t) now = if nat_le t.end now then fired t now else Some t

-- both clocks after a time has passed, and the timer
abbrev pub passed : ClockState → ℕ → ClockState
passed c by = record {
  real = moved c.real by;
  monotonic = moved c.monotonic by;
  timer = timer_by c.timer (moved c.monotonic by);
}

-- whether the timer fires meanwhile, once or more often
abbrev pub fires : ClockState → ℕ → Bool
fires c by = is_due c.timer (moved c.monotonic by)

-- without a timer
abbrev pub stopped : ClockState → ClockState
stopped c = record c { timer = None }
