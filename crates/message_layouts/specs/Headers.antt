-- The header of a message, and an int alone: their tables, and their rows of words in the order of the columns.
use Rattle.std.specs.Prelude.{List, ◌%◌, ◌^◌, [], ◌∷◌, slice_index}
use Rattle.std.specs.Int.{w32, w64, cast_signed, cast_unsigned}
use Rattle.layout_laws.specs.declared.columns.Column.{Column}
use Rattle.layout_laws.specs.declared.columns.Field.TheVariants.{I32, U32}
use Rattle.layout_laws.specs.declared.columns.Misfit.TheVariants.{Low}
use Rattle.layout_laws.specs.declared.columns.Offset.TheVariants.{At}
use Rattle.layout_laws.specs.Shapes.{Shape}
use Rattle.layout_laws.specs.Tables.{column}
use Rattle.message_layouts.specs.declared.headers.MessageHeader.{MessageHeader}
use Rattle.message_layouts.specs.declared.headers.SignedWord32.{SignedWord32}

-- struct compat_msghdr, 28 bytes
abbrev pub message_header_columns : List Column
message_header_columns =
    column U32 (At 0) Low ∷  -- msg_name
    column I32 (At 4) Low ∷  -- msg_namelen
    column U32 (At 8) Low ∷  -- msg_iov
    column U32 (At 12) Low ∷  -- msg_iovlen
    column U32 (At 16) Low ∷  -- msg_control
    column U32 (At 20) Low ∷  -- msg_controllen
    column U32 (At 24) Low ∷  -- msg_flags
    []

abbrev pub message_header : Shape MessageHeader
message_header = record {
  size = At 28;
  columns = message_header_columns;
  row = λ v. v.name ∷ cast_unsigned w64 v.name_length ∷ v.vector ∷ v.vector_count ∷ v.control ∷ v.control_length ∷ v.flags ∷ [];
  value = λ xs. record {
    name = slice_index xs 0 % 2 ^ 32;
    name_length = cast_signed w32 (slice_index xs 1 % 2 ^ 32);
    vector = slice_index xs 2 % 2 ^ 32;
    vector_count = slice_index xs 3 % 2 ^ 32;
    control = slice_index xs 4 % 2 ^ 32;
    control_length = slice_index xs 5 % 2 ^ 32;
    flags = slice_index xs 6 % 2 ^ 32;
  };
}

-- int, 4 bytes
abbrev pub signed_word_32_columns : List Column
signed_word_32_columns =
    column I32 (At 0) Low ∷  -- value
    []

abbrev pub signed_word_32 : Shape SignedWord32
signed_word_32 = record {
  size = At 4;
  columns = signed_word_32_columns;
  row = λ v. cast_unsigned w64 v.value ∷ [];
  value = λ xs. record { value = cast_signed w32 (slice_index xs 0 % 2 ^ 32) };
}
