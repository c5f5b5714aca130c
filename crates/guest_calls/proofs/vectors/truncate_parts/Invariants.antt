use Rattle.std.proofs.Common.{◌≡◌, take, drop, ◌++◌}
use Rattle.guest_calls.specs.Vectors.{carried}
use Rattle.guest_calls.proofs.vectors.truncate_parts.Given as goal

abbrev pub invariant-loop-p : goal.invariant-loop-p
invariant-loop-p l = record {
  cut : take l.p-index l.parts ++ carried l.left (drop l.p-index l.fn.parts) ≡ carried l.most l.fn.parts;
  rest : drop l.p-index l.parts ≡ drop l.p-index l.fn.parts;
}
