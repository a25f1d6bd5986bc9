-- Usage: its table, and its row of words.
use Rattle.std.specs.Prelude.{List, [], ◌∷◌, map}
use Rattle.std.specs.Int.{w64, cast_signed, cast_unsigned}
use Rattle.layout_laws.specs.declared.columns.Column.{Column}
use Rattle.layout_laws.specs.declared.columns.Field.TheVariants.{I32}
use Rattle.layout_laws.specs.declared.columns.Misfit.TheVariants.{Low}
use Rattle.layout_laws.specs.declared.columns.Offset.TheVariants.{At}
use Rattle.layout_laws.specs.Shapes.{Shape}
use Rattle.layout_laws.specs.Tables.{column}
use Rattle.time_layouts.specs.declared.usage.Usage32.{Usage32}

-- struct rusage of 32-bit processes, 72 bytes
abbrev pub usage_columns : List Column
usage_columns =
    column I32 (At 0) Low ∷  -- utime seconds
    column I32 (At 4) Low ∷  -- utime microseconds
    column I32 (At 8) Low ∷  -- stime seconds
    column I32 (At 12) Low ∷  -- stime microseconds
    column I32 (At 16) Low ∷  -- maxrss
    column I32 (At 20) Low ∷  -- ixrss
    column I32 (At 24) Low ∷  -- idrss
    column I32 (At 28) Low ∷  -- isrss
    column I32 (At 32) Low ∷  -- minflt
    column I32 (At 36) Low ∷  -- majflt
    column I32 (At 40) Low ∷  -- nswap
    column I32 (At 44) Low ∷  -- inblock
    column I32 (At 48) Low ∷  -- oublock
    column I32 (At 52) Low ∷  -- msgsnd
    column I32 (At 56) Low ∷  -- msgrcv
    column I32 (At 60) Low ∷  -- nsignals
    column I32 (At 64) Low ∷  -- nvcsw
    column I32 (At 68) Low ∷  -- nivcsw
    []

abbrev pub usage : Shape Usage32
usage = record {
  size = At 72;
  columns = usage_columns;
  row = λ v. map (cast_unsigned w64) v.usage.words;
  value = λ xs. record { usage = record { words = map (cast_signed w64) xs } };
}
