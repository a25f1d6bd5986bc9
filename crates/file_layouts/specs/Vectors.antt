-- Entries of vectors: their tables, and their rows of words in the order of the columns.
use Rattle.std.specs.Prelude.{List, ◌%◌, ◌^◌, [], ◌∷◌, slice_index}
use Rattle.layout_laws.specs.declared.columns.Column.{Column}
use Rattle.layout_laws.specs.declared.columns.Field.TheVariants.{U32, U64}
use Rattle.layout_laws.specs.declared.columns.Misfit.TheVariants.{Low}
use Rattle.layout_laws.specs.declared.columns.Offset.TheVariants.{At}
use Rattle.layout_laws.specs.Shapes.{Shape}
use Rattle.file_layouts.specs.declared.vectors.IoVec32.{IoVec32}
use Rattle.file_layouts.specs.declared.vectors.IoVec64.{IoVec64}
use Rattle.layout_laws.specs.Tables.{column}

-- struct compat_iovec, 8 bytes
abbrev pub io_vec_32_columns : List Column
io_vec_32_columns =
    column U32 (At 0) Low ∷  -- iov_base
    column U32 (At 4) Low ∷  -- iov_len
    []

abbrev pub io_vec_32 : Shape IoVec32
io_vec_32 = record {
  size = At 8;
  columns = io_vec_32_columns;
  row = λ v. v.base ∷ v.count ∷ [];
  value = λ xs. record { base = slice_index xs 0 % 2 ^ 32; count = slice_index xs 1 % 2 ^ 32 };
}

-- struct iovec of a 64-bit kernel, 16 bytes
abbrev pub io_vec_64_columns : List Column
io_vec_64_columns =
    column U64 (At 0) Low ∷  -- iov_base
    column U64 (At 8) Low ∷  -- iov_len
    []

abbrev pub io_vec_64 : Shape IoVec64
io_vec_64 = record {
  size = At 16;
  columns = io_vec_64_columns;
  row = λ v. v.base ∷ v.count ∷ [];
  value = λ xs. record { base = slice_index xs 0; count = slice_index xs 1 };
}
