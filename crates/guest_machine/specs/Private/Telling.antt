-- What is told of an instruction.
use Rattle.std.specs.Prelude.{◌≡◌}
use Rattle.rv_exec.specs.declared.outcome.Access.{Access}
use Rattle.rv_exec.specs.declared.outcome.Access.TheVariants as access
use Rattle.call_tracker.specs.declared.jumps.JumpKind.{JumpKind}
use Rattle.call_tracker.specs.declared.jumps.JumpKind.TheVariants as jumps

-- what accesses memory is no call and no return
abbrev pub IsAlone : Access → JumpKind → Type 0
IsAlone access.Nothing jump = Unit {0}
IsAlone accessed jump = jump ≡ jumps.Nothing
