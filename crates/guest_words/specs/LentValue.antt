-- What a table of threads ends as, where a `&mut` to a value is returned.
use Rattle.std.specs.Prelude.{ℕ, Option}
use Rattle.std.specs.Borrow.{Lends, LendsIf, Fml, RattleType, MutBor}
use Rattle.guest_words.specs.ByThread.{Table, with_value}
use Rattle.guest_words.specs.contracts.by_thread.ByThread.{the_row}

-- the table with another value of a thread
abbrev pub with_entry : {T : Type 0} → Table T → ℕ → T → Table T
with_entry table t v = record table { list = with_value table.list t v }

module _ (T : RattleType) (table : MutBor (Table T.Denot)) (t : ℕ) where
  -- once the borrow r ends, the thread has the last value written through r
  abbrev pub lends_place : MutBor T.Denot → Fml
  lends_place r = Lends (the_row T) T table r (with_entry table.now t)

  -- the same where r is a reference, and at `None` the table stays as it is
  abbrev pub lends_value : Option (MutBor T.Denot) → Fml
  lends_value r = LendsIf (the_row T) T table r (with_entry table.now t) table.now
