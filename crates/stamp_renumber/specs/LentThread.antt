-- What the threads end as, where a `&mut` to the stamps of one is returned.
use Rattle.std.specs.Prelude.{ℕ, List}
use Rattle.std.specs.Borrow.{Fml, Lends, MutBor, RattleType}
use Rattle.guest_words.specs.ByThread.{with_value}
use Rattle.shadow_pages.specs.Pages.{Page, Pages}
use Rattle.shadow_pages.specs.Lending.{StampMembers, shadow_row}
use Rattle.stamp_renumber.specs.Threads.{Live, calls_of, frames_of, spare_of}
use Rattle.stamp_renumber.specs.contracts.threads.Threads.{the_row}

-- the thread has these pages
abbrev pub with_pages : Live → ℕ → List Page → Live
with_pages live t pages = record live { threads = with_value live.threads t (record { frames = frames_of live.threads t; spare = spare_of live.threads t; pages = pages; calls = calls_of live.threads t }) }

module _ (S : RattleType) (g : StampMembers S.Denot) (s : MutBor Live) where
  -- the thread ends with the last pages behind r
  abbrev pub LendsStamps : ℕ → MutBor Pages → Fml
  LendsStamps t r = Lends (the_row S (record { MAX = g.MAX; number_of = g.number_of; of_number = g.of_number }) (record { cmp = g.cmp }) (record { eq = g.eq }) (record { partial_cmp = g.partial_cmp })) (shadow_row S g) s r (λ p. with_pages s.now t p.pages)
