use Rattle.std.proofs.Common.{◌≡◌, ◌++◌, length}
use Rattle.aprof_top.specs.Traces.{named_entries}
use Rattle.aprof_top.proofs.trace_job.named_entries.Given as goal

-- the names so far, and those of the entries that are left
abbrev pub invariant-loop-entry : goal.invariant-loop-entry
invariant-loop-entry l = l.names.items ++ named_entries l.image l.entries.keys ≡ named_entries l.image l.initial.entries.keys

abbrev pub decreases-loop-entry : goal.decreases-loop-entry
decreases-loop-entry l = length l.entries.keys
