use Rattle.std.proofs.Common.{◌≡◌, ℕ, ◌≤◌, ◌<◌, false}
use Rattle.guest_memory.specs.Guest.{memory_of}
use Rattle.guest_calls.specs.Files.{ends_path}
use Rattle.guest_calls.proofs.paths.path_end.Given as goal

abbrev pub invariant-loop-at : goal.invariant-loop-at
invariant-loop-at l = (q : ℕ) → l.path ≤ q → q < l.at → ends_path (memory_of l.memory) q ≡ false
