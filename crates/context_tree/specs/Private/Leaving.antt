-- The first context in the text behind all that are under one.
use Rattle.std.specs.Prelude.{◌≡◌, ◌⊎◌, ℕ, ◌≤◌, true, List, ◌++◌, length, Option, Some, None}
use Rattle.context_tree.specs.Numbers.{numbered}
use Rattle.context_tree.specs.Order.{comes_before, numbers_down_to}

-- one list begins with the other
pub record Extends (k m : List ℕ) : Type 0 where
  pub rest : List ℕ
  pub is : m ≡ k ++ rest

-- the one context is the other, or under it
abbrev pub IsUnder : List (List ℕ) → List ℕ → List ℕ → Type 0
IsUnder contexts c d = Extends (numbers_down_to contexts c) (numbers_down_to contexts d)

-- The number is that of the first context in the text that comes after this one and all that are under it, or none does.
abbrev pub IsLeftBy : List (List ℕ) → List ℕ → Option ℕ → Type 0
IsLeftBy contexts c None = (m : ℕ) → 1 ≤ m → m ≤ length contexts → comes_before contexts c (numbered contexts m) ≡ true → IsUnder contexts c (numbered contexts m)
IsLeftBy contexts c (Some n) =
    (1 ≤ n)
    × (n ≤ length contexts)
    × (comes_before contexts c (numbered contexts n) ≡ true)
    × ((m : ℕ) → 1 ≤ m → m ≤ length contexts → comes_before contexts c (numbered contexts m) ≡ true →
    IsUnder contexts c (numbered contexts m) ⊎ ((n ≡ m) ⊎ (comes_before contexts (numbered contexts n) (numbered contexts m) ≡ true)))
