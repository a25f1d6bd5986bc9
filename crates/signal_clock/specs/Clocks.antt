-- The two clocks: which there are, and how they are told and set.
use Rattle.std.specs.Prelude.{Bool, not, ℕ, zero, suc, ℤ, pos, negsuc, ◌+◌, ◌-◌, ◌^◌, min, nat_le, Result, Ok, Err, ⊤}
use Rattle.std.specs.Ordering.{int_eq}
use Rattle.kernel_values.specs.Outcome.{◌>>=◌, ◌>>◌, refused_if, settled}
use Rattle.kernel_values.specs.Times.{nanoseconds}
use Rattle.kernel_values.specs.declared.errno.Errno.{Errno}
use Rattle.kernel_values.specs.declared.errno.Errno.TheVariants.{InvalidArgument, NotPermitted}
use Rattle.kernel_values.specs.declared.times.TimeSpec.{TimeSpec}
use Rattle.signal_clock.specs.ClockState.{ClockState}
use Rattle.signal_clock.specs.declared.values.ClockId.{ClockId}
use Rattle.signal_clock.specs.declared.values.ClockId.TheVariants.{Real, Monotonic}

-- the clock of a number
abbrev pub clock_named : ℤ → Result ClockId Errno
clock_named (pos zero) = Ok Real
clock_named (pos (suc zero)) = Ok Monotonic
clock_named (pos (suc (suc n))) = Err InvalidArgument
clock_named (negsuc n) = Err InvalidArgument

abbrev pub reading : ClockState → ClockId → ℕ
reading c Real = c.real
reading c Monotonic = c.monotonic

-- what a clock may be set to, in nanoseconds
abbrev pub clock_value : TimeSpec → Result ℕ Errno
clock_value t = do
  n ← nanoseconds t
  refused_if (nat_le (2 ^ 62) n) InvalidArgument
  Ok n

-- a clock after a time has passed: it stops at its last value
abbrev pub moved : ℕ → ℕ → ℕ
moved clock by = min (clock + by) (2 ^ 62 - 1)

-- clock_gettime and clock_getres ask a clock by its number
abbrev pub clock : ClockState → ℤ → Result ℕ Errno
clock c id = do
  named ← clock_named id
  Ok (reading c named)

-- the real clock alone can be set; the timer runs on the monotonic one, so none fires
abbrev pub set_clock : ClockState → Bool → ℤ → TimeSpec → Result ⊤ Errno × ClockState
set_clock c privileged id t = settled c (do
  refused_if (not (int_eq id (pos 0))) InvalidArgument
  n ← clock_value t
  refused_if (not privileged) NotPermitted
  Ok (tt, record c { real = n }))
