-- What is told of a signal: its table, and its row of words in the order of the columns.
use Rattle.std.specs.Prelude.{ℕ, ◌+◌, List, [], ◌∷◌}
use Rattle.std.specs.Int.{w64, cast_unsigned}
use Rattle.kernel_values.specs.declared.signals.SigInfo.{SigInfo}
use Rattle.layout_laws.specs.declared.columns.Column.{Column}
use Rattle.layout_laws.specs.declared.columns.Field.TheVariants.{I32, U32}
use Rattle.layout_laws.specs.declared.columns.Misfit.TheVariants.{Low}
use Rattle.layout_laws.specs.declared.columns.Offset.TheVariants.{At}
use Rattle.layout_laws.specs.Shapes.{Shape}
use Rattle.signal_layouts.specs.declared.infos.SigInfo32.{SigInfo32}
use Rattle.layout_laws.specs.Tables.{column}
use Rattle.signal_layouts.specs.Words.{half_at, signed_at}

-- siginfo_t of 32-bit processes, 128 bytes, as far as it is kept
abbrev pub info_32_columns : List Column
info_32_columns =
    column I32 (At 0) Low ∷  -- signo
    column I32 (At 4) Low ∷  -- errno
    column I32 (At 8) Low ∷  -- code
    column U32 (At 12) Low ∷  -- pid
    column U32 (At 16) Low ∷  -- uid
    column U32 (At 20) Low ∷  -- value
    []

abbrev pub info_row : SigInfo → List ℕ
info_row i = i.signal ∷ cast_unsigned w64 i.errno ∷ cast_unsigned w64 i.code ∷ i.pid ∷ i.uid ∷ i.value ∷ []

-- what the words from a place on tell
abbrev pub info_in : List ℕ → ℕ → SigInfo
info_in xs place = record {
  signal = half_at xs place;
  errno = signed_at xs (place + 1);
  code = signed_at xs (place + 2);
  pid = half_at xs (place + 3);
  uid = half_at xs (place + 4);
  value = half_at xs (place + 5);
}

abbrev pub info_32 : Shape SigInfo32
info_32 = record {
  size = At 128;
  columns = info_32_columns;
  row = λ v. info_row v.info;
  value = λ xs. record { info = info_in xs 0 };
}
