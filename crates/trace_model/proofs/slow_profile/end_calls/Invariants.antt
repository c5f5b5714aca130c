use Rattle.std.proofs.Common.{◌≡◌, ◌++◌, map, take, reverse}
use Rattle.trace_model.specs.Profile.{done_of}
use Rattle.trace_model.proofs.slow_profile.end_calls.Given as goal

abbrev pub invariant-loop-k : goal.invariant-loop-k
invariant-loop-k l =
    l.done.items ≡ l.initial.done.items ++ map (done_of (reverse l.trace) l.tid) (take l.k (reverse l.calls))
