-- Entries of poll, and the number of FIONREAD: their tables, and their rows of words in the order of the columns.
use Rattle.std.specs.Prelude.{List, ◌%◌, ◌^◌, [], ◌∷◌, slice_index}
use Rattle.std.specs.Int.{w64, cast_signed, cast_unsigned}
use Rattle.layout_laws.specs.declared.columns.Column.{Column}
use Rattle.layout_laws.specs.declared.columns.Field.TheVariants.{I32, U16}
use Rattle.layout_laws.specs.declared.columns.Misfit.TheVariants.{Low}
use Rattle.layout_laws.specs.declared.columns.Offset.TheVariants.{At}
use Rattle.layout_laws.specs.Shapes.{Shape}
use Rattle.layout_laws.specs.Tables.{column}
use Rattle.file_layouts.specs.declared.polls.ByteCount.{ByteCount}
use Rattle.file_layouts.specs.declared.polls.PollAnswer.{PollAnswer}
use Rattle.file_layouts.specs.declared.polls.PollEntry.{PollEntry}

-- struct pollfd, 8 bytes, without the revents at byte 6
abbrev pub poll_entry_columns : List Column
poll_entry_columns =
    column I32 (At 0) Low ∷  -- fd
    column U16 (At 4) Low ∷  -- events
    []

abbrev pub poll_entry : Shape PollEntry
poll_entry = record {
  size = At 8;
  columns = poll_entry_columns;
  row = λ v. cast_unsigned w64 v.fd ∷ v.events ∷ [];
  value = λ xs. record { fd = cast_signed w64 (slice_index xs 0); events = slice_index xs 1 % 2 ^ 32 };
}

-- those revents, 2 bytes
abbrev pub poll_answer_columns : List Column
poll_answer_columns =
    column U16 (At 0) Low ∷  -- revents
    []

abbrev pub poll_answer : Shape PollAnswer
poll_answer = record {
  size = At 2;
  columns = poll_answer_columns;
  row = λ v. v.revents ∷ [];
  value = λ xs. record { revents = slice_index xs 0 % 2 ^ 32 };
}

-- int, 4 bytes
abbrev pub byte_count_columns : List Column
byte_count_columns =
    column I32 (At 0) Low ∷  -- count
    []

abbrev pub byte_count : Shape ByteCount
byte_count = record {
  size = At 4;
  columns = byte_count_columns;
  row = λ v. v.count ∷ [];
  value = λ xs. record { count = slice_index xs 0 % 2 ^ 32 };
}
