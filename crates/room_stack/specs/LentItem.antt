-- What a stack ends as, where a `&mut` to an item is returned.
use Rattle.std.specs.Prelude.{ℕ, slice_set}
use Rattle.std.specs.Borrow.{Fml, Lends, MutBor, RattleType}
use Rattle.room_stack.specs.Stacked.{Stacked}
use Rattle.room_stack.specs.contracts.room_stack.RoomStack.{the_row}

-- the stack with another item at a place
abbrev pub with_item : {T : Type 0} → Stacked T → ℕ → T → Stacked T
with_item stack i item = record stack { items = slice_set stack.items i item }

module _ (T : RattleType) (stack : MutBor (Stacked T.Denot)) (i : ℕ) where
  -- once the borrow r ends, the item is the last one written through r
  abbrev pub lends_item : MutBor T.Denot → Fml
  lends_item r = Lends (the_row T) T stack r (with_item stack.now i)
