-- What a list ends as, where a `&mut` to one of its items is returned.
use Rattle.std.specs.Prelude.{ℕ, List, slice_set}
use Rattle.std.specs.Borrow.{Lends, Fml, RattleType, MutBor}
use Rattle.kernel_values.specs.contracts.lists.ItemList.{the_row}

-- once the borrow r ends, the item at the index is the last one written through r
abbrev pub lends_item : (T : RattleType) → MutBor (List T.Denot) → ℕ → MutBor T.Denot → Fml
lends_item T s at r = Lends (the_row T) T s r (λ w. slice_set s.now at w)
