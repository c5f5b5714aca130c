use Rattle.std.proofs.Common.{◌≡◌, List, take}
use Rattle.std.specs.List.{flat_map}
use Rattle.trace_model.specs.declared.event_kinds.Event.{Event}
use Rattle.cost_points.specs.Contents.{contents_of}
use Rattle.context_tree.specs.Contexts.{contexts}
use Rattle.context_tree.specs.Points.{done_in_context, members_of}
use Rattle.context_tree.specs.Branches.{BranchesStandFor}
use Rattle.context_tree.proofs.branches.Branches.add_totals.Given as goal

abbrev pub invariant-loop-i : goal.invariant-loop-i
invariant-loop-i l = (past : List Event) → BranchesStandFor l.self past → l.table ≡ contents_of (flat_map (members_of (done_in_context past)) (take l.i (contexts past)))
