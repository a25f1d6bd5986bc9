-- Credentials: their table, and their rows of words in the order of the columns.
use Rattle.std.specs.Prelude.{List, ◌%◌, ◌^◌, [], ◌∷◌, slice_index}
use Rattle.layout_laws.specs.declared.columns.Column.{Column}
use Rattle.layout_laws.specs.declared.columns.Field.TheVariants.{U32}
use Rattle.layout_laws.specs.declared.columns.Misfit.TheVariants.{Low}
use Rattle.layout_laws.specs.declared.columns.Offset.TheVariants.{At}
use Rattle.layout_laws.specs.Shapes.{Shape}
use Rattle.layout_laws.specs.Tables.{column}
use Rattle.message_layouts.specs.declared.credentials.CompatCredentials.{CompatCredentials}

-- struct ucred, 12 bytes
abbrev pub compat_credentials_columns : List Column
compat_credentials_columns =
    column U32 (At 0) Low ∷  -- pid
    column U32 (At 4) Low ∷  -- uid
    column U32 (At 8) Low ∷  -- gid
    []

abbrev pub compat_credentials : Shape CompatCredentials
compat_credentials = record {
  size = At 12;
  columns = compat_credentials_columns;
  row = λ v. v.credentials.pid ∷ v.credentials.uid ∷ v.credentials.gid ∷ [];
  value = λ xs. record { credentials = record { pid = slice_index xs 0 % 2 ^ 32; uid = slice_index xs 1 % 2 ^ 32; gid = slice_index xs 2 % 2 ^ 32 } };
}
