-- What holds of the calling contexts of every run, stated without a tree.
use Rattle.std.specs.Prelude.{◌≡◌, ℕ, ◌==◌, Bool, false, List, [], ◌∷◌, filter, map}
use Rattle.std.specs.List.{All, count_by, flat_map, fold, sum_by}
use Rattle.std.specs.Option.{option_map_or}
use Rattle.trace_model.specs.declared.event_kinds.Event.{Event}
use Rattle.trace_model.specs.Profile.{done}
use Rattle.cost_points.specs.declared.point.Point.{Point}
use Rattle.cost_points.specs.declared.point.Split.{Split}
use Rattle.cost_points.specs.Contents.{contents_of}
use Rattle.cost_points.specs.Keys.{put}
use Rattle.cost_points.specs.Merging.{merged}
use Rattle.cost_points.specs.Points.{points}
use Rattle.context_tree.specs.Contexts.{contexts, same}
use Rattle.context_tree.specs.Points.{done_in_context, members_of, points_in}

-- Each activation that ended has one of the contexts, once.
pub record EachHasOneContext (past : List Event) : Type 0 where
  pub all : map (λ x. x.1) (done_in_context past) ≡ done past
  pub one : All (λ x. count_by (same x.0) (contexts past) ≡ 1) (done_in_context past)

-- The activations of one context after the other make the table of all that ended.
abbrev pub ContextsMakeTheTable : List Event → Type 0
ContextsMakeTheTable past = contents_of (flat_map (members_of (done_in_context past)) (contexts past)) ≡ contents_of (done past)

-- the context is of the routine at the entry, which is its last
abbrev pub is_of : ℕ → List ℕ → Bool
is_of entry [] = false
is_of entry (x ∷ []) = x == entry
is_of entry (x ∷ y ∷ c) = is_of entry (y ∷ c)

-- the points of the routine's contexts
abbrev pub context_points : List Event → ℕ → List Point
context_points past entry = flat_map (points_in past) (filter (is_of entry) (contexts past))

-- the points of the routine
abbrev pub routine_points : List Event → ℕ → List Point
routine_points past entry = flat_map (λ r. r.points) (filter (λ r. r.entry == entry) (points (done past)))

-- one of the parts of the sizes, summed up over points
abbrev pub part_sum : (Split → ℕ) → List Point → ℕ
part_sum part ps = sum_by (λ p. option_map_or part p.split 0) ps

-- Calls, sums of costs and parts of sizes of some points add up to those of others.
pub record AddUp (some others : List Point) : Type 0 where
  pub calls : sum_by (λ p. p.calls) some ≡ sum_by (λ p. p.calls) others
  pub sums : sum_by (λ p. p.sum) some ≡ sum_by (λ p. p.sum) others
  pub plain : part_sum (λ s. s.plain) some ≡ part_sum (λ s. s.plain) others
  pub thread : part_sum (λ s. s.thread) some ≡ part_sum (λ s. s.thread) others
  pub kernel : part_sum (λ s. s.kernel) some ≡ part_sum (λ s. s.kernel) others
  pub bare : part_sum (λ s. s.bare) some ≡ part_sum (λ s. s.bare) others

-- points with one more, sizes rising: the one of its size takes it in, and where there is none it is a new one
abbrev pub with_more : List Point → Point → List Point
with_more ps p = put (λ q. q.size) p.size (λ q. merged q p) p ps

-- Points put together, one for each size: calls, sums and parts of those of the size add up, the least is the least of theirs,
-- and the most the greatest.
abbrev pub together : List Point → List Point
together ps = fold with_more [] ps
