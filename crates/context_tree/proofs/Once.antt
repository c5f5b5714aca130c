-- Facts that have at most one proof.
use Rattle.std.proofs.Common.{ℕ, ◌*◌, List, Option, Some, None}
use Rattle.std.specs.Prelude.{IfSome}
use Rattle.std.proofs.Props.{props}
use Rattle.cost_points.specs.declared.point.Point.{Point}
use Rattle.cost_points.specs.Search.{HasRoom, HasSplitRoom}
use Rattle.cost_points.specs.Valid.{IsPoint, IsSplit}
use Rattle.context_tree.specs.declared.order.Links.{Links}
use Rattle.context_tree.specs.Branches.{KeptBranches}
use Rattle.context_tree.specs.Links.{IsLastUnder, IsLinked, IsNextUnder}
use Rattle.context_tree.specs.Private.Taking.{IsWhole}
use Rattle.context_tree.specs.Private.Ways.{ArePoints}

pub if_some : {A : Type 0} (P : A → Type 0) → ((a : A) → IsProp (P a)) → (o : Option A) → IsProp (IfSome o P)
if_some P once None = hlevel props
if_some P once (Some a) = once a

room_once : (p : Point) → IsProp (HasRoom p)
room_once p = let split = if_some HasSplitRoom (λ s. hlevel props) p.split in hlevel (props, split)

pub points_once : (ps : List Point) → IsProp (ArePoints ps)
points_once ps = hlevel (props, room_once)

pub point_once : (p : Point) → IsProp (IsPoint p)
point_once p = let split = if_some (IsSplit (p.size * p.calls)) (λ s. hlevel props) p.split in hlevel (props, split)

next_once : (places : List (ℕ × ℕ)) (n k : ℕ) (o : Option ℕ) → IsProp (IsNextUnder places n k o)
next_once places n k None = hlevel props
next_once places n k (Some s) = hlevel props

last_once : (places : List (ℕ × ℕ)) (n : ℕ) (o : Option ℕ) → IsProp (IsLastUnder places n o)
last_once places n None = hlevel props
last_once places n (Some l) = let next = next_once places n l None in hlevel (props, next)

pub linked_once : (places : List (ℕ × ℕ)) (links : List Links) → IsProp (IsLinked places links)
linked_once places links = hlevel (props, next_once, last_once)

pub whole_once : (kept : KeptBranches) → IsProp (IsWhole kept)
whole_once kept = hlevel (props, linked_once, points_once)
