-- What the pages end as, where a `&mut` to stamps is returned.
use Rattle.std.specs.Prelude.{ℕ, Bool, List, Option, map}
use Rattle.std.specs.Borrow.{Array, Fml, Lends, MutBor, RattleType}
use Rattle.std.specs.declared.cmp.Ordering.{Ordering}
use Rattle.shadow_pages.specs.Pages.{Pages, changed, refilled, with_page}
use Rattle.shadow_pages.specs.contracts.shadow.Shadow.{the_row}

-- what a clause has as S.Stamp
abbrev pub StampMembers : Type 0 → Type 0
StampMembers S = record { partial_cmp : S → S → Option Ordering; eq : S → S → Bool; cmp : S → S → Ordering; MAX : ℕ; number_of : S → ℕ; of_number : ℕ → S }

-- the type of the shadows with stamps of a type
abbrev pub shadow_row : (S : RattleType) → StampMembers S.Denot → RattleType
shadow_row S g = the_row S (record { MAX = g.MAX; number_of = g.number_of; of_number = g.of_number }) (record { cmp = g.cmp }) (record { eq = g.eq }) (record { partial_cmp = g.partial_cmp })

module _ (S : RattleType) (g : StampMembers S.Denot) (s : MutBor Pages) where
  -- the page at the place ends with the last stamps behind r
  abbrev pub LendsPage : ℕ → MutBor (List S.Denot) → Fml
  LendsPage i r = Lends (shadow_row S g) (Array S 0) s r (λ w. record { pages = with_page s.now.pages i (map g.number_of w) })

  -- the page of the number ends with the last stamps behind r
  abbrev pub LendsPageOf : ℕ → MutBor (List S.Denot) → Fml
  LendsPageOf n r = Lends (shadow_row S g) (Array S 0) s r (λ w. record { pages = changed s.now.pages n (λ old. refilled old (map g.number_of w)) })
