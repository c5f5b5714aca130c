use Rattle.std.proofs.Common.{◌≡◌, ◌++◌, List, ℕ, length}
use Rattle.stored_traces.specs.Replays.{HasReplayed}
use Rattle.stored_traces.proofs.replaying.replay.Given as goal

abbrev pub invariant-loop-rest : goal.invariant-loop-rest
invariant-loop-rest g l = (seen : List ℕ) × (seen ++ l.rest ≡ l.bytes) × HasReplayed g.S.Stamp.MAX l.replay seen

abbrev pub decreases-loop-rest : goal.decreases-loop-rest
decreases-loop-rest g l = length l.rest
