-- Actions of signals: their tables, and their rows of words in the order of the columns.
use Rattle.std.specs.Prelude.{List, [], ◌∷◌, slice_index}
use Rattle.layout_laws.specs.declared.columns.Column.{Column}
use Rattle.layout_laws.specs.declared.columns.Field.TheVariants.{U32, U64}
use Rattle.layout_laws.specs.declared.columns.Misfit.TheVariants.{Low}
use Rattle.layout_laws.specs.declared.columns.Offset.TheVariants.{At}
use Rattle.layout_laws.specs.Shapes.{Shape}
use Rattle.signal_layouts.specs.declared.actions.Action32.{Action32}
use Rattle.signal_layouts.specs.declared.actions.OldAction32.{OldAction32}
use Rattle.layout_laws.specs.Tables.{column}
use Rattle.signal_layouts.specs.Words.{half_at}

-- struct old_sigaction of 32-bit processes, 16 bytes
abbrev pub old_action_32_columns : List Column
old_action_32_columns =
    column U32 (At 0) Low ∷  -- handler
    column U32 (At 4) Low ∷  -- mask
    column U32 (At 8) Low ∷  -- flags
    column U32 (At 12) Low ∷  -- restorer
    []

abbrev pub old_action_32 : Shape OldAction32
old_action_32 = record {
  size = At 16;
  columns = old_action_32_columns;
  row = λ v. v.action.handler ∷ v.action.mask.bits ∷ v.action.flags ∷ v.action.restorer ∷ [];
  value = λ xs. record { action = record { handler = half_at xs 0; flags = half_at xs 2; restorer = half_at xs 3; mask = record { bits = half_at xs 1 } } };
}

-- struct sigaction of 32-bit processes, 20 bytes
abbrev pub action_32_columns : List Column
action_32_columns =
    column U32 (At 0) Low ∷  -- handler
    column U32 (At 4) Low ∷  -- flags
    column U32 (At 8) Low ∷  -- restorer
    column U64 (At 12) Low ∷  -- mask
    []

abbrev pub action_32 : Shape Action32
action_32 = record {
  size = At 20;
  columns = action_32_columns;
  row = λ v. v.action.handler ∷ v.action.flags ∷ v.action.restorer ∷ v.action.mask.bits ∷ [];
  value = λ xs. record { action = record { handler = half_at xs 0; flags = half_at xs 1; restorer = half_at xs 2; mask = record { bits = slice_index xs 3 } } };
}
