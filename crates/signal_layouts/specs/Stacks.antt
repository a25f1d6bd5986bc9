-- The alternate stack: its table, and its row of words in the order of the columns.
use Rattle.std.specs.Prelude.{ℕ, ◌+◌, List, [], ◌∷◌}
use Rattle.std.specs.Int.{w64, cast_unsigned}
use Rattle.layout_laws.specs.declared.columns.Column.{Column}
use Rattle.layout_laws.specs.declared.columns.Field.TheVariants.{I32, U32}
use Rattle.layout_laws.specs.declared.columns.Misfit.TheVariants.{Low}
use Rattle.layout_laws.specs.declared.columns.Offset.TheVariants.{At}
use Rattle.layout_laws.specs.Shapes.{Shape}
use Rattle.signal_layouts.specs.declared.stacks.Stack32.{Stack32}
use Rattle.layout_laws.specs.Tables.{column}
use Rattle.signal_layouts.specs.Words.{half_at, signed_at}

-- stack_t of 32-bit processes, 12 bytes
abbrev pub stack_32_columns : List Column
stack_32_columns =
    column U32 (At 0) Low ∷  -- sp
    column I32 (At 4) Low ∷  -- flags
    column U32 (At 8) Low ∷  -- size
    []

abbrev pub stack_row : Stack32 → List ℕ
stack_row s = s.base ∷ cast_unsigned w64 s.flags ∷ s.size ∷ []

-- the stack that the words from a place on mean
abbrev pub stack_in : List ℕ → ℕ → Stack32
stack_in xs place = record { base = half_at xs place; flags = signed_at xs (place + 1); size = half_at xs (place + 2) }

abbrev pub stack_32 : Shape Stack32
stack_32 = record {
  size = At 12;
  columns = stack_32_columns;
  row = stack_row;
  value = λ xs. stack_in xs 0;
}
