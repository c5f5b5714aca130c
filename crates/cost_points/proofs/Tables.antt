-- The points of activations: their sizes and entries rise.
use Rattle.std.proofs.Common.{◌≡◌, ℕ, List, [], map, refl, sym, subst, ap₂}
use Rattle.trace_model.specs.declared.slow_profile.Done.{Done}
use Rattle.cost_points.specs.declared.point.Point.{Point}
use Rattle.cost_points.specs.Keys.{rising, IsRising, grouped}
use Rattle.cost_points.specs.Points.{Routine, point_of, routine_of, points}
use Rattle.cost_points.specs.Contents.{TableContents}
use Rattle.cost_points.proofs.Rising.{IsRising-rising}
use Rattle.cost_points.proofs.Grouped.{grouped_labels}

abbrev size_of : Done → ℕ
size_of d = d.size

abbrev entry_of : Done → ℕ
entry_of d = d.entry

abbrev pub sized : List Done → List Point
sized members = grouped size_of point_of members

sizes_are : (members : List Done) → map (λ p. p.size) (sized members) ≡ rising (map size_of members)
sizes_are members = grouped_labels size_of point_of (λ p. p.size) (λ k ms. refl) members

entries_are : (all : List Done) → map (λ r. r.entry) (points all) ≡ rising (map entry_of all)
entries_are all = grouped_labels entry_of routine_of (λ r. r.entry) (λ k ms. refl) all

pub points_rise : (all : List Done) → IsRising (map (λ r. r.entry) (points all))
points_rise all = subst IsRising (sym (entries_are all)) (IsRising-rising (map entry_of all))

pub sizes_rise : (members : List Done) → IsRising (map (λ p. p.size) (sized members))
sizes_rise members = subst IsRising (sym (sizes_are members)) (IsRising-rising (map size_of members))

pub points_none : [] ≡ points []
unfolding grouped
points_none = refl

-- a contents, by its parts
abbrev pub contents : ℕ → List Routine → TableContents
contents members routines = record { members = members; routines = routines }

pub contents_same : (m n : ℕ) (rs ss : List Routine) → m ≡ n → rs ≡ ss → contents m rs ≡ contents n ss
contents_same m n rs ss same_members same_routines = ap₂ contents same_members same_routines
