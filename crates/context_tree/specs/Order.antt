-- The order of contexts in a text: depth first, each context before all that are under it, and the contexts right under one
-- in order of their first begin.
use Rattle.std.specs.Prelude.{◌≡◌, ◌⊎◌, ℕ, ◌≤◌, ◌==◌, Bool, true, false, nat_lt, if◌then◌else◌, List, [], ◌∷◌, length, map, take, slice_index_or, Option, Some, None}
use Rattle.std.specs.List.{AllPairs, count_by, filter, position_or_len, range_with_len}
use Rattle.std.specs.List.Sorted.{IsPermutation}
use Rattle.context_tree.specs.Contexts.{same}
use Rattle.context_tree.specs.Numbers.{numbered}

-- the numbers of the beginnings of a context, the shortest first, where contexts are numbered by their first begin
abbrev pub numbers_down_to : List (List ℕ) → List ℕ → List ℕ
numbers_down_to contexts c = map (λ n. position_or_len (same (take n c)) contexts) (range_with_len 1 (length c))

-- the first number that differs is the smaller one, or none differs and the list is the shorter one
abbrev pub is_before : List ℕ → List ℕ → Bool
is_before [] [] = false
is_before [] (n ∷ ns) = true
is_before (m ∷ ms) [] = false
is_before (m ∷ ms) (n ∷ ns) = if m == n then is_before ms ns else nat_lt m n

-- one context stands before another in the text
abbrev pub comes_before : List (List ℕ) → List ℕ → List ℕ → Bool
comes_before contexts c d = is_before (numbers_down_to contexts c) (numbers_down_to contexts d)

-- The number is that of the context that comes next after this one in the text, or none comes after it. The one with no entry
-- comes before all.
abbrev pub IsFollowedBy : List (List ℕ) → List ℕ → Option ℕ → Type 0
IsFollowedBy contexts c None = (m : ℕ) → 1 ≤ m → m ≤ length contexts → comes_before contexts c (numbered contexts m) ≡ true → ⊥
IsFollowedBy contexts c (Some n) =
    (1 ≤ n)
    × (n ≤ length contexts)
    × (comes_before contexts c (numbered contexts n) ≡ true)
    × ((m : ℕ) → 1 ≤ m → m ≤ length contexts → comes_before contexts c (numbered contexts m) ≡ true → (n ≡ m) ⊎ (comes_before contexts (numbered contexts n) (numbered contexts m) ≡ true))

-- These are the contexts in the order of the text.
pub record IsInOrder (contexts ordered : List (List ℕ)) : Type 0 where
  pub all : IsPermutation contexts ordered
  pub order : AllPairs (λ c d. is_before (numbers_down_to contexts c) (numbers_down_to contexts d) ≡ true) ordered

-- how many contexts come before it
abbrev pub place : List (List ℕ) → List ℕ → ℕ
place contexts c = count_by (λ d. comes_before contexts d c) contexts

-- the context at a place
abbrev pub at_place : List (List ℕ) → ℕ → List ℕ
at_place contexts i = slice_index_or (filter (λ c. place contexts c == i) contexts) 0 []

-- the contexts in that order
abbrev pub in_order : List (List ℕ) → List (List ℕ)
in_order contexts = map (at_place contexts) (range_with_len 0 (length contexts))
