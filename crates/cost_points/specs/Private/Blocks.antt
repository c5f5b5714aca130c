-- What private functions do with blocks of items.
use Rattle.std.specs.Prelude.{◌≡◌, ℕ, suc, ◌+◌, ◌<◌, ◌≤◌, List, [], ◌∷◌, ◌++◌, drop, get_or, length, take}
use Rattle.std.specs.List.{insert}
use Rattle.cost_points.specs.Places.{before, behind}

-- the items with one more, which takes a place of block b
abbrev pub with_item : {A : Type 0} → List (List A) → ℕ → ℕ → A → List A
with_item bs b at x = before b bs ++ (insert (get_or bs b []) at x ++ behind b bs)

-- the blocks, where block b is cut behind its first n items
abbrev pub cut : {A : Type 0} → ℕ → ℕ → List (List A) → List (List A)
cut n b bs = take b bs ++ (take n (get_or bs b []) ∷ drop n (get_or bs b []) ∷ drop (suc b) bs)

-- The item stands at a place of block b.
pub record IsItemAt {A : Type 0} (bs : List (List A)) (b at : ℕ) (x : A) : Type 0 where
  pub block : b < length bs
  pub inside : at < length (get_or bs b [])
  pub here : (d : A) → get_or (get_or bs b []) at d ≡ x

-- What a search by halves between two blocks knows: the key is not below the first item of the lower block, if that is not
-- the first one, and below the first item of the upper one, if there is such a block.
pub record IsBetween {A : Type 0} (key : A → ℕ) (bs : List (List A)) (x low high : ℕ) : Type 0 where
  pub apart : low < high
  pub inside : high ≤ length bs
  pub reached : 0 < low → (d : A) → key (get_or (get_or bs low []) 0 d) ≤ x
  pub beyond : high < length bs → (d : A) → x < key (get_or (get_or bs high []) 0 d)

-- The item of an index stands at a place of block b.
pub record IsIndexOf {A : Type 0} (bs : List (List A)) (i b at : ℕ) : Type 0 where
  pub block : b < length bs
  pub inside : at < length (get_or bs b [])
  pub index : length (before b bs) + at ≡ i
