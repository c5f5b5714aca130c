-- A row of steps that led on, and then leads further.
use Rattle.std.proofs.Common.{◌≡◌, ℕ, Bool, List, Result, Ok, subst}
use Rattle.std.specs.declared.alloc.AllocError.{AllocError}
use Rattle.rv_exec.specs.Effects.{ExecState}
use Rattle.trace_model.specs.declared.event_kinds.Event.{Event}
use Rattle.trace_model.specs.declared.observer.Observed.{Observed}
use Rattle.trace_model.specs.declared.observer.Observed.TheVariants as observed
use Rattle.guest_machine.specs.Private.Rows.{Row, Runs, RunsOn}

-- the same answer, said otherwise
pub runs_as : {O : Type 0} (Stands : O → List Event → Type 0) (fits : List Event → Bool) (tid : ℕ) (row : Row) (here : ExecState) (now : O)
    (new : Row) (there : ExecState) (later : O) (answer wanted : Result Observed AllocError) → answer ≡ wanted
    → RunsOn Stands fits tid row here now new there later answer → RunsOn Stands fits tid row here now new there later wanted
runs_as {O} Stands fits tid row here now new there later answer wanted is on first old most run =
    subst (Runs Stands fits tid first old most new there later) is (on first old most run)

-- The observer's limit is said of what it was at each step, and stays.
pub runs_then : {O : Type 0} (Stands : O → List Event → Type 0) (fits fits' : List Event → Bool) → fits' ≡ fits → (tid : ℕ)
    (row : Row) (here : ExecState) (now : O) (mid_row : Row) (mid : ExecState) (seen : O)
    → RunsOn Stands fits tid row here now mid_row mid seen (Ok observed.Taken)
    → (new : Row) (there : ExecState) (later : O) (answer wanted : Result Observed AllocError) → answer ≡ wanted
    → RunsOn Stands fits' tid mid_row mid seen new there later answer → RunsOn Stands fits tid row here now new there later wanted
runs_then {O} Stands fits fits' same tid row here now mid_row mid seen on new there later answer wanted is next first old most run =
    subst (Runs Stands fits tid first old most new there later) is
    (subst (λ (f : List Event → Bool). RunsOn Stands f tid mid_row mid seen new there later answer) same next first old most (on first old most run))
