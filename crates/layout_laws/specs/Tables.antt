-- The words in which a table is written.
use Rattle.layout_laws.specs.declared.columns.Column.{Column}
use Rattle.layout_laws.specs.declared.columns.Field.{Field}
use Rattle.layout_laws.specs.declared.columns.Misfit.{Misfit}
use Rattle.layout_laws.specs.declared.columns.Offset.{Offset}

-- a field's type, its offset, and what becomes of a number that doesn't fit
abbrev pub column : Field → Offset → Misfit → Column
column field offset misfit = record { 0 = field; 1 = offset; 2 = misfit }
