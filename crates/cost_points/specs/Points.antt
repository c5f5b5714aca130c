-- The cost points of ended activations: by routine, and within a routine by the size of their input.
use Rattle.std.specs.Prelude.{ℕ, List, [], ◌∷◌, length, map, sum, min, max, Some}
use Rattle.std.specs.List.{fold, sum_by}
use Rattle.trace_model.specs.declared.slow_profile.Done.{Done}
use Rattle.cost_points.specs.declared.point.Point.{Point}
use Rattle.cost_points.specs.declared.point.Split.{Split}
use Rattle.cost_points.specs.Keys.{grouped}

-- the least number of a list that is not empty
abbrev pub least_of : List ℕ → ℕ
least_of [] = 0
least_of (x ∷ xs) = fold min x xs

-- the greatest number of a list that is not empty
abbrev pub greatest_of : List ℕ → ℕ
greatest_of [] = 0
greatest_of (x ∷ xs) = fold max x xs

-- the parts of the sizes of activations, summed up over them
abbrev pub split_of : List Done → Split
split_of members = record {
  plain = sum_by (λ d. d.plain) members;
  thread = sum_by (λ d. d.thread) members;
  kernel = sum_by (λ d. d.kernel) members;
  bare = sum_by (λ d. d.bare) members;
}

-- the point of a size: how many activations have it, the least, the greatest and the sum of their costs, and their parts
abbrev pub point_of : ℕ → List Done → Point
point_of size members =
    let costs = map (λ d. d.cost) members in
    record {
      size = size;
      calls = length costs;
      least = least_of costs;
      most = greatest_of costs;
      sum = sum costs;
      split = Some (split_of members);
    }

-- the point of one activation
abbrev pub point_of_one : Done → Point
point_of_one d = point_of d.size (d ∷ [])

-- A routine: its entry, and its points.
pub record Routine : Type 0 where
  pub entry : ℕ
  pub points : List Point

-- the routine at an entry: its activations' points, sizes rising
abbrev pub routine_of : ℕ → List Done → Routine
routine_of entry members = record { entry = entry; points = grouped (λ d. d.size) point_of members }

-- the routines of ended activations, entries rising
abbrev pub points : List Done → List Routine
points all = grouped (λ d. d.entry) routine_of all
