-- What a thread ends as, where a `&mut` to its stamps is returned.
use Rattle.std.specs.Borrow.{Fml, Lends, MutBor, RattleType}
use Rattle.shadow_pages.specs.Pages.{Pages}
use Rattle.shadow_pages.specs.Lending.{StampMembers, shadow_row}
use Rattle.stamp_renumber.specs.Threads.{Stamped}
use Rattle.stamp_renumber.specs.contracts.thread_stamps.ThreadStamps.{the_row}

module _ (S : RattleType) (g : StampMembers S.Denot) where
  -- the thread ends with the last pages behind r
  abbrev pub LendsShadow : MutBor Stamped → MutBor Pages → Fml
  LendsShadow s r = Lends (the_row S (record { MAX = g.MAX; number_of = g.number_of; of_number = g.of_number }) (record { cmp = g.cmp }) (record { eq = g.eq }) (record { partial_cmp = g.partial_cmp })) (shadow_row S g) s r (λ p. record { frames = s.now.frames; spare = s.now.spare; pages = p.pages; calls = s.now.calls })
