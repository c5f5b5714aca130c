-- The items of a stack, and its room.
use Rattle.std.specs.Prelude.{ℕ, List, refl}
use Rattle.std.specs.Coded.{Coded, code_by, coded×, coded_ℕ, coded_list}

-- The items, the first to come first, and how many can be pushed without allocating.
pub record Stacked (T : Type 0) : Type 0 where
  pub items : List T
  pub spare : ℕ

-- a stack is stored as the pair of its fields
abbrev pub stacked_code : {T : Type 0} → Coded T → Coded (Stacked T)
stacked_code {T} code = code_by (List T × ℕ) (coded× (coded_list code) coded_ℕ) (λ s. (s.items, s.spare)) (λ p. record { items = p.0; spare = p.1 }) (λ _. refl)
