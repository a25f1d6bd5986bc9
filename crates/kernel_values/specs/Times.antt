-- Times as counts of nanoseconds.
use Rattle.std.specs.Prelude.{Bool, ℕ, pos, ◌+◌, ◌*◌, ◌/◌, ◌%◌, nat_abs, int_lt, int_le, ◌||◌, Result, Ok, Err, if◌then◌else◌}
use Rattle.kernel_values.specs.declared.errno.Errno.{Errno}
use Rattle.kernel_values.specs.declared.errno.Errno.TheVariants.{InvalidArgument}
use Rattle.kernel_values.specs.declared.times.TimeSpec.{TimeSpec}
use Rattle.kernel_values.specs.declared.times.TimeVal.{TimeVal}

-- the seconds are negative, or the nanoseconds no part of a second
abbrev pub is_bad_time : TimeSpec → Bool
is_bad_time t = int_lt t.seconds (pos 0) || int_lt t.nanos (pos 0) || int_le (pos 1000000000) t.nanos

-- the whole nanoseconds
abbrev pub nanoseconds : TimeSpec → Result ℕ Errno
nanoseconds t = if is_bad_time t then Err InvalidArgument else Ok (nat_abs t.seconds * 1000000000 + nat_abs t.nanos)

-- the time of whole nanoseconds
abbrev pub time_of : ℕ → TimeSpec
time_of n = record { seconds = pos (n / 1000000000); nanos = pos (n % 1000000000) }

-- the time of nanoseconds, in whole microseconds
abbrev pub micros_of : ℕ → TimeVal
micros_of n = record { seconds = pos (n / 1000000000); micros = pos (n % 1000000000 / 1000) }
