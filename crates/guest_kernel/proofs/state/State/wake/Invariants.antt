use Rattle.guest_kernel.proofs.Wakings.{IsWaking}
use Rattle.guest_kernel.proofs.state.State.wake.Given as goal

abbrev pub invariant-loop-count : goal.invariant-loop-count
invariant-loop-count l = IsWaking l.initial.self l.self l.at l.bits l.most l.count
