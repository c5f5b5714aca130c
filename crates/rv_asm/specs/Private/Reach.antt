-- Why a draft is refused whose labels are all bound.
use Rattle.rv_asm.specs.declared.error.AsmError.{AsmError}
use Rattle.rv_asm.specs.declared.error.AsmError.TheVariants.{Unbound, Twice, Reach, Unencodable, Memory}
use Rattle.rv_asm.specs.Draft.{Draft}
use Rattle.rv_asm.specs.Refusals.{IsFirstOut}

-- what the refusals of a draft say of a draft whose labels are all bound
abbrev pub IsOutOfReach : Draft → AsmError → Type 0
IsOutOfReach d (Reach at) = IsFirstOut d at
IsOutOfReach d Memory = Unit {0}
IsOutOfReach d (Unbound label) = ⊥
IsOutOfReach d (Twice label) = ⊥
IsOutOfReach d (Unencodable at) = ⊥
