use Rattle.std.proofs.Common.{◌≡◌, ◌≤◌, ◌+◌, ◌-◌, ◌++◌, List, length, take}
use Rattle.trace_model.specs.declared.slow_profile.Done.{Done}
use Rattle.cost_points.specs.Contents.{contents_of}
use Rattle.run_profile.proofs.points.add_ended.Given as goal

abbrev pub invariant-loop-added : goal.invariant-loop-added
invariant-loop-added l = record {
  table : (earlier : List Done) → l.initial.table ≡ contents_of (earlier ++ take l.initial.added l.ends) → l.table ≡ contents_of (earlier ++ take l.added l.ends);
  inside : l.added ≤ length l.ends;
  members : l.table.members + l.initial.added ≡ l.initial.table.members + l.added;
}

abbrev pub decreases-loop-added : goal.decreases-loop-added
decreases-loop-added l = length l.ends - l.added
