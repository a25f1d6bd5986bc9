-- Times: their tables, and their rows of words in the order of the columns.
use Rattle.std.specs.Prelude.{List, [], ◌∷◌, slice_index}
use Rattle.std.specs.Int.{w64, cast_signed, cast_unsigned}
use Rattle.layout_laws.specs.declared.columns.Column.{Column}
use Rattle.layout_laws.specs.declared.columns.Field.TheVariants.{I32}
use Rattle.layout_laws.specs.declared.columns.Misfit.TheVariants.{Low}
use Rattle.layout_laws.specs.declared.columns.Offset.TheVariants.{At}
use Rattle.layout_laws.specs.Shapes.{Shape}
use Rattle.layout_laws.specs.Tables.{column}
use Rattle.time_layouts.specs.declared.times.FileTimes32.{FileTimes32}
use Rattle.time_layouts.specs.declared.times.TimeSpec32.{TimeSpec32}
use Rattle.time_layouts.specs.declared.times.TimeVal32.{TimeVal32}
use Rattle.time_layouts.specs.declared.times.TimerValue32.{TimerValue32}

-- struct timespec of 32-bit processes, 8 bytes
abbrev pub time_spec_columns : List Column
time_spec_columns =
    column I32 (At 0) Low ∷  -- seconds
    column I32 (At 4) Low ∷  -- nanoseconds
    []

abbrev pub time_spec : Shape TimeSpec32
time_spec = record {
  size = At 8;
  columns = time_spec_columns;
  row = λ v. cast_unsigned w64 v.time.seconds ∷ cast_unsigned w64 v.time.nanos ∷ [];
  value = λ xs. record { time = record { seconds = cast_signed w64 (slice_index xs 0); nanos = cast_signed w64 (slice_index xs 1) } };
}

-- struct timeval of 32-bit processes, 8 bytes
abbrev pub time_val_columns : List Column
time_val_columns =
    column I32 (At 0) Low ∷  -- seconds
    column I32 (At 4) Low ∷  -- microseconds
    []

abbrev pub time_val : Shape TimeVal32
time_val = record {
  size = At 8;
  columns = time_val_columns;
  row = λ v. cast_unsigned w64 v.time.seconds ∷ cast_unsigned w64 v.time.micros ∷ [];
  value = λ xs. record { time = record { seconds = cast_signed w64 (slice_index xs 0); micros = cast_signed w64 (slice_index xs 1) } };
}

-- struct itimerval of 32-bit processes, 16 bytes
abbrev pub timer_value_columns : List Column
timer_value_columns =
    column I32 (At 0) Low ∷  -- seconds of the interval
    column I32 (At 4) Low ∷  -- its microseconds
    column I32 (At 8) Low ∷  -- seconds of the value
    column I32 (At 12) Low ∷  -- its microseconds
    []

abbrev pub timer_value : Shape TimerValue32
timer_value = record {
  size = At 16;
  columns = timer_value_columns;
  row = λ v.
      cast_unsigned w64 v.timer.interval.seconds ∷ cast_unsigned w64 v.timer.interval.micros
      ∷ cast_unsigned w64 v.timer.value.seconds ∷ cast_unsigned w64 v.timer.value.micros ∷ [];
  value = λ xs. record {
    timer = record {
      interval = record { seconds = cast_signed w64 (slice_index xs 0); micros = cast_signed w64 (slice_index xs 1) };
      value = record { seconds = cast_signed w64 (slice_index xs 2); micros = cast_signed w64 (slice_index xs 3) };
    };
  };
}

-- two struct timespec of 32-bit processes, 16 bytes
abbrev pub file_times_32_columns : List Column
file_times_32_columns =
    column I32 (At 0) Low ∷  -- seconds of the last access
    column I32 (At 4) Low ∷  -- its nanoseconds
    column I32 (At 8) Low ∷  -- seconds of the last modification
    column I32 (At 12) Low ∷  -- its nanoseconds
    []

abbrev pub file_times_32 : Shape FileTimes32
file_times_32 = record {
  size = At 16;
  columns = file_times_32_columns;
  row = λ v.
      cast_unsigned w64 v.times.accessed.seconds ∷ cast_unsigned w64 v.times.accessed.nanos
      ∷ cast_unsigned w64 v.times.modified.seconds ∷ cast_unsigned w64 v.times.modified.nanos ∷ [];
  value = λ xs. record {
    times = record {
      accessed = record { seconds = cast_signed w64 (slice_index xs 0); nanos = cast_signed w64 (slice_index xs 1) };
      modified = record { seconds = cast_signed w64 (slice_index xs 2); nanos = cast_signed w64 (slice_index xs 3) };
    };
  };
}
