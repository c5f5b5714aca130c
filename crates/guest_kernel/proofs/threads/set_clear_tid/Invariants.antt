use Rattle.std.proofs.Common.{◌≡◌, map, take, drop, ◌++◌}
use Rattle.guest_kernel.specs.Threads.{with_clear_tid}
use Rattle.guest_kernel.proofs.threads.set_clear_tid.Given as goal

abbrev pub invariant-loop-t : goal.invariant-loop-t
invariant-loop-t l = l.threads ≡ map (with_clear_tid l.tid l.at) (take l.t-index l.fn.threads) ++ drop l.t-index l.fn.threads
