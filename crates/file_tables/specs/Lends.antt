-- What a map ends as, where a `&mut` to one of its values is returned.
use Rattle.std.specs.Prelude.{ℕ, List}
use Rattle.std.specs.Borrow.{Lends, Fml, RattleType, MutBor}
use Rattle.file_tables.specs.contracts.slab_map.SlabMap.{the_row}
use Rattle.number_maps.specs.NumberMap.{put}

-- once the borrow r ends, the number has the last value written through r
abbrev pub lends_value : (V : RattleType) → MutBor (List (ℕ × V.Denot)) → ℕ → MutBor V.Denot → Fml
lends_value V s number r = Lends (the_row V) V s r (λ w. put s.now number w)
