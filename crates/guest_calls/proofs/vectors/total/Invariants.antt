use Rattle.std.proofs.Common.{◌≡◌, ◌≤◌, ◌*◌, ◌^◌, take}
use Rattle.guest_kernel.specs.Parts.{total}
use Rattle.guest_calls.proofs.vectors.total.Given as goal

abbrev pub invariant-loop-p : goal.invariant-loop-p
invariant-loop-p l = record {
  sum : l.sum ≡ total (take l.p-index l.parts);
  bound : l.sum ≤ l.p-index * 2 ^ 32;
}
