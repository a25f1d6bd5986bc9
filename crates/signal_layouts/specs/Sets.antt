-- Sets of signals: their tables, and their rows of words.
use Rattle.std.specs.Prelude.{List, [], ◌∷◌, slice_index}
use Rattle.layout_laws.specs.declared.columns.Column.{Column}
use Rattle.layout_laws.specs.declared.columns.Field.TheVariants.{U32, U64}
use Rattle.layout_laws.specs.declared.columns.Misfit.TheVariants.{Low}
use Rattle.layout_laws.specs.declared.columns.Offset.TheVariants.{At}
use Rattle.layout_laws.specs.Shapes.{Shape}
use Rattle.signal_layouts.specs.declared.sets.SignalSet32.{SignalSet32}
use Rattle.signal_layouts.specs.declared.sets.SignalSet64.{SignalSet64}
use Rattle.layout_laws.specs.Tables.{column}
use Rattle.signal_layouts.specs.Words.{half_at}

-- old_sigset_t of 32-bit processes, 4 bytes
abbrev pub set_32_columns : List Column
set_32_columns =
    column U32 (At 0) Low ∷  -- signals 1 to 32
    []

abbrev pub set_32 : Shape SignalSet32
set_32 = record {
  size = At 4;
  columns = set_32_columns;
  row = λ v. v.set.bits ∷ [];
  value = λ xs. record { set = record { bits = half_at xs 0 } };
}

-- sigset_t of 32-bit processes, 8 bytes
abbrev pub set_64_columns : List Column
set_64_columns =
    column U64 (At 0) Low ∷  -- signals 1 to 64
    []

abbrev pub set_64 : Shape SignalSet64
set_64 = record {
  size = At 8;
  columns = set_64_columns;
  row = λ v. v.set.bits ∷ [];
  value = λ xs. record { set = record { bits = slice_index xs 0 } };
}
