use Rattle.std.proofs.Common.{◌≡◌, ◌-◌, ◌≤◌, ℕ, List, length, take}
use Rattle.guest_memory.specs.Memory.{Memory, with_bytes}
use Rattle.guest_memory.specs.Private.HeldCode.{HoldsCode}
use Rattle.guest_memory.proofs.code_cache.CodeCache.forget.Given as goal

abbrev pub invariant-pages : goal.invariant-pages
invariant-pages l = record {
  within : l.done ≤ l.count;
  holds : (m : Memory) (bytes : List ℕ) → length bytes ≡ l.count → HoldsCode l.initial.self m → HoldsCode l.self (with_bytes m l.at (take l.done bytes));
}

abbrev pub decreases-pages : goal.decreases-pages
decreases-pages l = l.count - l.done
