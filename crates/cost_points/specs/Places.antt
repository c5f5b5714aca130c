-- Places in blocks of items by rising key.
use Rattle.std.specs.Prelude.{ℕ, suc, ◌<◌, List, [], drop, get_or, length, map, set, take}
use Rattle.std.specs.List.{All}
use Rattle.cost_points.specs.Joined.{joined}
use Rattle.cost_points.specs.Search.{IsAt, IsInsertionPoint}

-- the items of the blocks before block b
abbrev pub before : {A : Type 0} → ℕ → List (List A) → List A
before b bs = joined (take b bs)

-- the items of the blocks behind block b
abbrev pub behind : {A : Type 0} → ℕ → List (List A) → List A
behind b bs = joined (drop (suc b) bs)

-- the blocks with another item at a place of block b
abbrev pub with_changed : {A : Type 0} → List (List A) → ℕ → ℕ → A → List (List A)
with_changed bs b at x = set bs b (set (get_or bs b []) at x)

-- The key belongs into block b: the keys before it are smaller, and those behind it greater.
pub record IsBlockOf {A : Type 0} (key : A → ℕ) (bs : List (List A)) (x b : ℕ) : Type 0 where
  pub inside : b < length bs
  pub smaller : All (λ a. key a < x) (before b bs)
  pub greater : All (λ a. x < key a) (behind b bs)

-- The key stands at a place of block b.
pub record IsPlaceOf {A : Type 0} (key : A → ℕ) (bs : List (List A)) (x b at : ℕ) : Type 0 where
  pub block : IsBlockOf key bs x b
  pub here : IsAt (map key (get_or bs b [])) x at

-- The key would go at a place of block b.
pub record IsGapOf {A : Type 0} (key : A → ℕ) (bs : List (List A)) (x b at : ℕ) : Type 0 where
  pub block : IsBlockOf key bs x b
  pub here : IsInsertionPoint (map key (get_or bs b [])) x at
