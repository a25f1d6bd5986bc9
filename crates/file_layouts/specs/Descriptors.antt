-- Pairs of descriptors: their table, and their rows of words in the order of the columns.
use Rattle.std.specs.Prelude.{List, ◌%◌, ◌^◌, [], ◌∷◌, slice_index}
use Rattle.layout_laws.specs.declared.columns.Column.{Column}
use Rattle.layout_laws.specs.declared.columns.Field.TheVariants.{I32}
use Rattle.layout_laws.specs.declared.columns.Misfit.TheVariants.{Low}
use Rattle.layout_laws.specs.declared.columns.Offset.TheVariants.{At}
use Rattle.layout_laws.specs.Shapes.{Shape}
use Rattle.layout_laws.specs.Tables.{column}
use Rattle.file_layouts.specs.declared.descriptors.DescriptorPair.{DescriptorPair}

-- int pipefd[2], 8 bytes
abbrev pub descriptor_pair_columns : List Column
descriptor_pair_columns =
    column I32 (At 0) Low ∷  -- the end to read from
    column I32 (At 4) Low ∷  -- the end to write to
    []

abbrev pub descriptor_pair : Shape DescriptorPair
descriptor_pair = record {
  size = At 8;
  columns = descriptor_pair_columns;
  row = λ v. v.first ∷ v.second ∷ [];
  value = λ xs. record { first = slice_index xs 0 % 2 ^ 32; second = slice_index xs 1 % 2 ^ 32 };
}
