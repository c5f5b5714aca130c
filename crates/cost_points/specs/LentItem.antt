-- What blocks of items end as, where a `&mut` to an item is returned.
use Rattle.std.specs.Prelude.{ℕ, List}
use Rattle.std.specs.Borrow.{Lends, Fml, RattleType, MutBor}
use Rattle.cost_points.specs.Places.{with_changed}
use Rattle.cost_points.specs.contracts.by_key.ByKey.{the_row}

module _ (T : RattleType) (blocks : MutBor (List (List T.Denot))) (b at : ℕ) where
  -- once the borrow r ends, the last value written through r stands at the place
  abbrev pub lends_item : MutBor T.Denot → Fml
  lends_item r = Lends (the_row T) T blocks r (with_changed blocks.now b at)
