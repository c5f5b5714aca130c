-- Items in blocks by their index among all.
use Rattle.std.specs.Prelude.{◌≡◌, ℕ, ◌<◌, ◌≤◌, List, length, slice_index}
use Rattle.cost_points.specs.Joined.{IsFilled, joined}
use Rattle.cost_points.specs.Places.{before}

-- The numbers are the indexes at which blocks begin: that of the first one, and of some that follow on it.
pub record AreStarts {A : Type 0} (bs : List (List A)) (starts : List ℕ) : Type 0 where
  pub some : 1 ≤ length starts
  pub inside : length starts ≤ length bs
  pub each : (b : ℕ) → b < length starts → slice_index starts b ≡ length (before b bs)

-- Blocks, how many items they have, and where some begin.
pub record AreIndexed {A : Type 0} (bs : List (List A)) (count : ℕ) (starts : List ℕ) : Type 0 where
  pub filled : IsFilled bs
  pub all : count ≡ length (joined bs)
  pub starts_are : AreStarts bs starts
