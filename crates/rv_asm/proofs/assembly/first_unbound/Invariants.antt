use Rattle.std.proofs.Common.{◌≡◌, drop}
use Rattle.rv_asm.specs.Refusals.{first_unbound}
use Rattle.rv_asm.proofs.assembly.first_unbound.Given as goal

abbrev pub invariant-loop-line : goal.invariant-loop-line
invariant-loop-line l = first_unbound l.bindings l.lines ≡ first_unbound l.bindings (drop l.line-index l.lines)
