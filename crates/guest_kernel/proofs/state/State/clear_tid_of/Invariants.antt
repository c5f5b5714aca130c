use Rattle.std.proofs.Common.{◌≡◌, drop}
use Rattle.std.specs.List.{find}
use Rattle.guest_kernel.specs.Kernel.{is_thread}
use Rattle.guest_kernel.proofs.state.State.clear_tid_of.Given as goal

abbrev pub invariant-loop-t : goal.invariant-loop-t
invariant-loop-t l = find (is_thread l.tid) (drop l.t-index l.self.threads) ≡ find (is_thread l.tid) l.self.threads
