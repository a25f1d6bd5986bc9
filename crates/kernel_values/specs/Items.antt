-- How the items of a state are told one by one. A cursor stands for the items that are left.
use Rattle.std.specs.Prelude.{◌≡◌, List, [], ◌∷◌, Option, MatchOption}
use Rattle.kernel_values.specs.declared.items.StateItem.{StateItem}

-- the first of the items left at a cursor, and the cursor at the others; none where none is left
abbrev pub TellsFirst : {C : Type 0} → (C → List StateItem) → C → Option (StateItem × C) → Type 0
TellsFirst left cursor told = MatchOption told (left cursor ≡ []) (λ t. left cursor ≡ t.0 ∷ left t.1)
