-- Positions: their tables, and their rows of words in the order of the columns.
use Rattle.std.specs.Prelude.{List, [], ◌∷◌, slice_index}
use Rattle.std.specs.Int.{w64, cast_signed, cast_unsigned}
use Rattle.layout_laws.specs.declared.columns.Column.{Column}
use Rattle.layout_laws.specs.declared.columns.Field.TheVariants.{I32, I64}
use Rattle.layout_laws.specs.declared.columns.Misfit.TheVariants.{Low, Refuse}
use Rattle.layout_laws.specs.declared.columns.Offset.TheVariants.{At}
use Rattle.layout_laws.specs.Shapes.{Shape}
use Rattle.layout_laws.specs.Tables.{column}
use Rattle.file_layouts.specs.declared.positions.Position32.{Position32}
use Rattle.file_layouts.specs.declared.positions.Position64.{Position64}

-- off_t of a 32-bit process, 4 bytes
abbrev pub position_32_columns : List Column
position_32_columns =
    column I32 (At 0) Refuse ∷  -- position
    []

abbrev pub position_32 : Shape Position32
position_32 = record {
  size = At 4;
  columns = position_32_columns;
  row = λ v. cast_unsigned w64 v.position ∷ [];
  value = λ xs. record { position = cast_signed w64 (slice_index xs 0) };
}

-- loff_t, 8 bytes
abbrev pub position_64_columns : List Column
position_64_columns =
    column I64 (At 0) Low ∷  -- position
    []

abbrev pub position_64 : Shape Position64
position_64 = record {
  size = At 8;
  columns = position_64_columns;
  row = λ v. cast_unsigned w64 v.position ∷ [];
  value = λ xs. record { position = cast_signed w64 (slice_index xs 0) };
}
