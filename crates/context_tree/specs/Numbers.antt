-- Contexts by number. The context with no entry has the number 0, and the others those from 1 on, in order of first begin.
use Rattle.std.specs.Prelude.{◌≡◌, ◌≢◌, ℕ, zero, suc, ◌-◌, ◌<◌, ◌≤◌, Bool, false, ◌&&◌, nat_eq, if◌then◌else◌, List, [], ◌∷◌, ◌++◌, length, slice_index_or}
use Rattle.std.specs.List.{list_any}
use Rattle.guest_words.specs.declared.limits.TheConstants.{CONTEXTS}
use Rattle.context_tree.specs.Contexts.{same, with_context}

-- the context of a number
abbrev pub numbered : List (List ℕ) → ℕ → List ℕ
numbered contexts zero = []
numbered contexts (suc i) = slice_index_or contexts i []

-- the child of the context of the number `above` that has this entry
abbrev pub child_of : List (List ℕ) → ℕ → ℕ → List ℕ
child_of contexts above entry = numbered contexts above ++ entry ∷ []

-- the contexts with this child, which is added at the end unless it is among them
abbrev pub with_child : List (List ℕ) → ℕ → ℕ → List (List ℕ)
with_child contexts above entry = with_context contexts (child_of contexts above entry)

-- the number of the context right above that of the number n
abbrev pub above_of : List (ℕ × ℕ) → ℕ → ℕ
above_of places n = (slice_index_or places (n - 1) (0, 0)).0

-- two places are the same
abbrev pub same_place : ℕ × ℕ → ℕ × ℕ → Bool
same_place x y = nat_eq x.0 y.0 && nat_eq x.1 y.1

-- the places with this one, which is added at the end unless it is among them
abbrev pub with_place : List (ℕ × ℕ) → ℕ × ℕ → List (ℕ × ℕ)
with_place places place = if list_any (same_place place) places then places else places ++ place ∷ []

-- Of each context there are kept the number of the one right above it, which is smaller than its own, and its last entry.
pub record NumbersStandFor (places : List (ℕ × ℕ)) (contexts : List (List ℕ)) : Type 0 where
  pub long : length places ≡ length contexts
  pub above : (i : ℕ) → i < length contexts → (slice_index_or places i (0, 0)).0 ≤ i
  pub each : (i : ℕ) → i < length contexts →
      slice_index_or contexts i [] ≡ numbered contexts (slice_index_or places i (0, 0)).0 ++ (slice_index_or places i (0, 0)).1 ∷ []
  pub once : (i j : ℕ) → i < j → j < length contexts → slice_index_or contexts i [] ≢ slice_index_or contexts j []

-- The number is that of the context.
pub record IsNumberOf (contexts : List (List ℕ)) (n : ℕ) (c : List ℕ) : Type 0 where
  pub within : n ≤ length contexts
  pub there : numbered contexts n ≡ c

-- The context is not there, and there are as many as can be numbered.
pub record IsBeyond (contexts : List (List ℕ)) (c : List ℕ) : Type 0 where
  pub full : length contexts ≡ CONTEXTS
  pub absent : list_any (same c) contexts ≡ false
