-- Where a search ends in rising keys, and the room that a point has for one more activation.
use Rattle.std.specs.Prelude.{◌≡◌, ℕ, ◌<◌, ◌≤◌, ◌^◌, List, length, slice_index, Result, MatchResult, IfSome}
use Rattle.cost_points.specs.declared.point.Point.{Point}
use Rattle.cost_points.specs.declared.point.Split.{Split}

-- the key stands at place i
pub record IsAt (keys : List ℕ) (key i : ℕ) : Type 0 where
  pub in_range : i < length keys
  pub here : slice_index keys i ≡ key

-- the key would go at place i: the keys before it are smaller, and those from it on greater
pub record IsInsertionPoint (keys : List ℕ) (key i : ℕ) : Type 0 where
  pub in_range : i ≤ length keys
  pub smaller : (j : ℕ) → j < i → slice_index keys j < key
  pub greater : (j : ℕ) → i ≤ j → j < length keys → key < slice_index keys j

-- Ok is where the key stands, and Err where it would go
abbrev pub FindsKey : List ℕ → ℕ → Result ℕ ℕ → Type 0
FindsKey keys key r = MatchResult r (IsAt keys key) (IsInsertionPoint keys key)

-- There is room for the parts of as many activations again.
pub record HasSplitRoom (s : Split) : Type 0 where
  pub plain : s.plain < 2 ^ 127
  pub thread : s.thread < 2 ^ 127
  pub kernel : s.kernel < 2 ^ 127
  pub bare : s.bare < 2 ^ 127

-- There is room for as many activations again.
pub record HasRoom (p : Point) : Type 0 where
  pub calls : p.calls < 2 ^ 63
  pub sum : p.sum < 2 ^ 127
  pub split : IfSome p.split HasSplitRoom
