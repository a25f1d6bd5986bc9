-- Shapes that stand whole inside others.
use Rattle.std.specs.Prelude.{ℕ, ◌+◌, List, [], ◌∷◌}
use Rattle.layout_laws.specs.declared.columns.Column.{Column}
use Rattle.layout_laws.specs.declared.columns.Offset.{Offset}
use Rattle.layout_laws.specs.declared.columns.Offset.TheVariants.{At, By}
use Rattle.layout_laws.specs.Tables.{column}

-- an offset in a shape that stands at this offset of another
abbrev pub moved : ℕ → Offset → Offset
moved at (At n) = At (at + n)
moved at (By n m) = By (at + n) (at + m)

-- the columns of a shape that stands at this offset of another
abbrev pub inside : ℕ → List Column → List Column
inside at [] = []
inside at (c ∷ cs) = column c.0 (moved at c.1) c.2 ∷ inside at cs
