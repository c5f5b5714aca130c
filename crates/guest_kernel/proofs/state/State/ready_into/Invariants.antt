use Rattle.std.proofs.Common.{◌≡◌, map, take}
use Rattle.std.specs.Prelude.{not}
use Rattle.guest_kernel.specs.Kernel.{is_blocked}
use Rattle.guest_kernel.proofs.state.State.ready_into.Given as goal

abbrev pub invariant-loop-t : goal.invariant-loop-t
invariant-loop-t l = l.into ≡ map (λ t. (t.tid, not (is_blocked l.self t.tid))) (take l.t-index l.self.threads)
