use Rattle.std.proofs.Common.{◌≡◌, take, reverse}
use Rattle.trace_model.specs.Activations.{open_calls}
use Rattle.trace_model.proofs.activations.open_calls.Given as goal

abbrev pub invariant-loop-at : goal.invariant-loop-at
invariant-loop-at l = reverse l.calls.items ≡ open_calls (reverse (take l.at l.trace)) l.tid
