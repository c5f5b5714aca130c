-- An instruction that was carried out and told to the observer at once.
use Rattle.std.proofs.Common.{◌≡◌, ℕ, ℤ, ◌+◌, ◌<◌, ◌≤◌, ◌%◌, ◌^◌, Bool, List, [], ◌∷◌, ◌++◌, Result, Ok, Err, IfOk, ap, refl, sym, subst, ◌∙◌, append-nil, arith}
use Rattle.std.specs.Allocator.{alloc_error}
use Rattle.std.specs.declared.alloc.AllocError.{AllocError}
use Rattle.guest_memory.specs.Code.{IsInstructionAt}
use Rattle.guest_memory.specs.Guest.{memory_of}
use Rattle.guest_memory.specs.declared.memory.GuestMemory.{GuestMemory}
use Rattle.guest_memory.specs.declared.reservations.Reservations.{Reservations}
use Rattle.guest_words.specs.declared.endings.FaultKind.{FaultKind}
use Rattle.rv_isa.specs.declared.instruction.Instr.{Instr}
use Rattle.rv_isa.specs.declared.instruction.Instr.TheVariants.{Load, Store}
use Rattle.rv_isa.specs.declared.instruction.LoadKind.{LoadKind}
use Rattle.rv_isa.specs.declared.instruction.StoreKind.{StoreKind}
use Rattle.rv_exec.specs.Effects.{ExecState, advanced, effect, exec_state_of, loads, on_registers, stores, value}
use Rattle.rv_exec.specs.Operations.{add_offset}
use Rattle.rv_exec.specs.Registers.{Registers, with_pc}
use Rattle.rv_exec.specs.declared.outcome.Access.{Access}
use Rattle.rv_exec.specs.declared.outcome.Access.TheVariants as access
use Rattle.rv_exec.specs.declared.outcome.Outcome.TheVariants.{Fault, Went}
use Rattle.call_tracker.specs.Links.{kind_of}
use Rattle.call_tracker.specs.declared.jumps.JumpKind.{JumpKind}
use Rattle.call_tracker.specs.declared.jumps.JumpKind.TheVariants.{Nothing}
use Rattle.trace_model.specs.declared.event_kinds.Event.{Event}
use Rattle.trace_model.specs.declared.event_kinds.Event.TheVariants.{Read, Step, Write}
use Rattle.trace_model.specs.declared.observer.Answer.{Answer}
use Rattle.trace_model.specs.declared.observer.Answer.TheVariants as reply
use Rattle.trace_model.specs.declared.observer.Observed.{Observed}
use Rattle.trace_model.specs.declared.observer.Observed.TheVariants as observed
use Rattle.trace_model.specs.Cut.{IsPrefixClosed}
use Rattle.trace_model.specs.Observing.{MayTakeAfter, MayTakeAll, ObservesAfter, ObservesAll, StepsFit, result_of}
use Rattle.guest_machine.specs.declared.stepped.Advanced.{Advanced}
use Rattle.guest_machine.specs.declared.stepped.Advanced.TheVariants.{Accessed}
use Rattle.guest_machine.specs.declared.rows.Further.{Further}
use Rattle.guest_machine.specs.declared.making.Made.{Made}
use Rattle.guest_machine.specs.declared.making.Made.TheVariants as made
use Rattle.guest_machine.specs.Private.Carrying.{IsStepOf}
use Rattle.guest_machine.specs.Private.Making.{Makes, MakesLoad, MakesStore, MayLoad, MayMake, MayStore, behind, made_answer, made_of, made_row, stored}
use Rattle.guest_machine.specs.Private.Rows.{further_of, handed, HasRun, Row, Runs, RunsOn}
use Rattle.guest_machine.specs.Step.{access_events, jump_events}
use Rattle.guest_machine.specs.Told.{done_by, steps_of}
use Rattle.guest_machine.proofs.Carried.{known_is, state_kept, steps_to}
use Rattle.guest_machine.proofs.Handed.{may_after, observes_behind}
use Rattle.guest_machine.proofs.RowOfSteps.{may_hand, runs_handed}

-- ---- the step of an instruction that is no call and no return
pub step_accessed : (here new : ExecState) (tid : ℕ) (i : Instr) (accessed : Access) → IsInstructionAt here.memory here.registers.pc i
    → (Went accessed, new) ≡ effect tid i here → kind_of i ≡ Nothing → IsStepOf here new tid (Accessed accessed)
step_accessed here new tid i accessed known effects none m is =
    steps_to m tid here is i (known_is here.memory here.registers.pc i known) accessed new effects (Step tid ∷ access_events tid accessed)
    (sym (ap (λ (k : JumpKind). Step tid ∷ (access_events tid accessed ++ jump_events k tid new.registers.pc ((here.registers.pc + 4) % 2 ^ 32))) none
    ∙ ap (λ (es : List Event). Step tid ∷ es) (append-nil (access_events tid accessed))))

-- ---- and what it makes of a row
module _ {O : Type 0} (Stands : O → List Event → Type 0) (fits : List Event → Bool) (closed : IsPrefixClosed fits) (fit : StepsFit fits) (tid steps : ℕ)
    (here : ExecState) (now : O) where
  module _ (new : ExecState) (e : Event) (advanced : Advanced) (one : done_by tid advanced ≡ e ∷ []) (step : IsStepOf here new tid advanced) where
    may_tell : MayMake Stands fits tid steps here now → MayTakeAfter Stands fits now tid steps e
    may_tell may =
        let row = may.row in
        let r = may.run in
        subst (λ n. MayTakeAfter Stands fits now tid n e) (sym may.count)
        (may_after Stands fits tid (row.plain + 1) e now
        (subst (λ (es : List Event). MayTakeAll Stands fits now (steps_of tid (row.plain + 1) ++ es)) one
        (may_hand Stands fits fit tid r.first r.old r.most row here now r.run may.low new advanced step)))

    leads : (later : O) (answer : Result Observed AllocError) → IfOk answer (ObservesAfter Stands fits tid steps e now later)
        → (row : Row) → row.plain < row.left → steps ≡ row.plain + 1 → RunsOn Stands fits tid row here now (handed row) new later answer
    leads later answer observes row low count first old most run =
        runs_handed Stands fits fit tid first old most row here now run low new advanced step answer later (all answer observes)
      where
        told : (seen : Observed) → ObservesAfter Stands fits tid steps e now later seen
            → ObservesAll Stands fits (steps_of tid (row.plain + 1) ++ done_by tid advanced) now later seen
        told seen h =
            subst (λ (es : List Event). ObservesAll Stands fits (steps_of tid (row.plain + 1) ++ es) now later seen) (sym one)
            (observes_behind Stands fits tid (row.plain + 1) e now closed fit later seen
            (subst (λ n. ObservesAfter Stands fits tid n e now later seen) count h))

        all : (a : Result Observed AllocError) → IfOk a (ObservesAfter Stands fits tid steps e now later)
            → IfOk a (ObservesAll Stands fits (steps_of tid (row.plain + 1) ++ done_by tid advanced) now later)
        all (Ok seen) h = told seen h
        all (Err error) h = tt

    makes : (later : O) (told : Answer) → IfOk (result_of told) (ObservesAfter Stands fits tid steps e now later)
        → Makes Stands fits tid steps here now new later (made_of told)
    makes later reply.Taken observes = leads later (Ok observed.Taken) observes
    makes later reply.Refused observes = leads later (Ok observed.Refused) observes
    makes later reply.OutOfMemory observes = leads later (Err alloc_error) observes

  -- an instruction that changed nothing
  makes_none : (new : ExecState) → new ≡ here → Makes Stands fits tid steps here now new now made.Stops
  makes_none new same = λ row low count first old most run.
      subst (λ (s : ExecState). HasRun Stands fits tid first old most row s now) (sym same) run

-- the counter behind what was told
behind_told : (pc : ℕ) (told : Answer) → behind pc (made_of told) ≡ (pc + 4) % 2 ^ 32
behind_told pc reply.Taken = refl
behind_told pc reply.Refused = refl
behind_told pc reply.OutOfMemory = refl

stored_told : (r : Registers) (told : Answer) → stored r (made_of told) ≡ advanced r
stored_told r reply.Taken = refl
stored_told r reply.Refused = refl
stored_told r reply.OutOfMemory = refl

-- ---- loads
module _ {O : Type 0} (Stands : O → List Event → Type 0) (fits : List Event → Bool) (closed : IsPrefixClosed fits) (fit : StepsFit fits) (tid steps : ℕ)
    (kind : LoadKind) (rd at : ℕ) (memory : GuestMemory) (old new : Registers) (now : O) where
  module _ (first count : ℕ)
      (went : (pc : ℕ) → (Went (access.Read first count), with_pc ((pc + 4) % 2 ^ 32) new) ≡ loads kind rd at (memory_of memory) (with_pc pc old)) where
    load_step : (pc : ℕ) (held : Reservations) (base : ℕ) (offset : ℤ) → IsInstructionAt (memory_of memory) pc (Load kind rd base offset)
        → at ≡ add_offset (value old base) offset
        → IsStepOf (exec_state_of (with_pc pc old) memory held) (exec_state_of (with_pc ((pc + 4) % 2 ^ 32) new) memory held) tid (Accessed (access.Read first count))
    load_step pc held base offset known at_is =
        let here = exec_state_of (with_pc pc old) memory held in
        step_accessed here (exec_state_of (with_pc ((pc + 4) % 2 ^ 32) new) memory held) tid (Load kind rd base offset) (access.Read first count) known
        (ap (on_registers here) (went pc ∙ ap (λ a. loads kind rd a (memory_of memory) (with_pc pc old)) at_is)) refl

    pub may_tell_load : MayLoad Stands fits tid steps kind rd at old memory now → MayTakeAfter Stands fits now tid steps (Read tid first count)
    may_tell_load may =
        may_tell Stands fits closed fit tid steps (exec_state_of (with_pc may.pc old) memory may.held) now
        (exec_state_of (with_pc ((may.pc + 4) % 2 ^ 32) new) memory may.held) (Read tid first count) (Accessed (access.Read first count)) refl
        (load_step may.pc may.held may.base may.offset may.known may.at_is) may.may

    pub makes_load : (later : O) (told : Answer) → IfOk (result_of told) (ObservesAfter Stands fits tid steps (Read tid first count) now later)
        → MakesLoad Stands fits tid steps kind rd at memory old now new later (made_of told)
    makes_load later told observes pc held base offset known at_is =
        subst (λ p. Makes Stands fits tid steps (exec_state_of (with_pc pc old) memory held) now (exec_state_of (with_pc p new) memory held) later (made_of told))
        (sym (behind_told pc told))
        (makes Stands fits closed fit tid steps (exec_state_of (with_pc pc old) memory held) now
        (exec_state_of (with_pc ((pc + 4) % 2 ^ 32) new) memory held) (Read tid first count) (Accessed (access.Read first count)) refl
        (load_step pc held base offset known at_is) later told observes)

  pub stops_load : (error : FaultKind) → ((pc : ℕ) → (Fault error, with_pc pc new) ≡ loads kind rd at (memory_of memory) (with_pc pc old))
      → MakesLoad Stands fits tid steps kind rd at memory old now new now made.Stops
  stops_load error faults pc held base offset known at_is =
      let here = exec_state_of (with_pc pc old) memory held in
      let there = exec_state_of (with_pc pc new) memory held in
      makes_none Stands fits closed fit tid steps here now there
      (state_kept tid (Load kind rd base offset) here there (Fault error)
      (ap (on_registers here) (faults pc ∙ ap (λ a. loads kind rd a (memory_of memory) (with_pc pc old)) at_is))
      (λ accessed is. absurd (let no : Went accessed ≡ Fault error = sym is in cc)))

-- ---- stores
module _ {O : Type 0} (Stands : O → List Event → Type 0) (fits : List Event → Bool) (closed : IsPrefixClosed fits) (fit : StepsFit fits) (tid steps : ℕ)
    (kind : StoreKind) (at n : ℕ) (memory : GuestMemory) (held : Reservations) (memory' : GuestMemory) (held' : Reservations) (now : O) where
  module _ (first count : ℕ)
      (went : (r : Registers) → (Went (access.Write first count), exec_state_of (advanced r) memory' held') ≡ stores tid kind at n (exec_state_of r memory held)) where
    store_step : (r : Registers) (from base : ℕ) (offset : ℤ) → IsInstructionAt (memory_of memory) r.pc (Store kind from base offset)
        → at ≡ add_offset (value r base) offset → n ≡ value r from
        → IsStepOf (exec_state_of r memory held) (exec_state_of (advanced r) memory' held') tid (Accessed (access.Write first count))
    store_step r from base offset known at_is n_is =
        let here = exec_state_of r memory held in
        step_accessed here (exec_state_of (advanced r) memory' held') tid (Store kind from base offset) (access.Write first count) known
        (went r ∙ ap (λ a. stores tid kind a n here) at_is ∙ ap (λ k. stores tid kind (add_offset (value r base) offset) k here) n_is) refl

    pub may_tell_store : MayStore Stands fits tid steps kind at n memory held now → MayTakeAfter Stands fits now tid steps (Write tid first count)
    may_tell_store may =
        may_tell Stands fits closed fit tid steps (exec_state_of may.r memory held) now
        (exec_state_of (advanced may.r) memory' held') (Write tid first count) (Accessed (access.Write first count)) refl
        (store_step may.r may.from may.base may.offset may.known may.at_is may.n_is) may.may

    pub makes_store : (later : O) (told : Answer) → IfOk (result_of told) (ObservesAfter Stands fits tid steps (Write tid first count) now later)
        → MakesStore Stands fits tid steps kind at n memory held now memory' held' later (made_of told)
    makes_store later told observes r from base offset known at_is n_is =
        subst (λ (s : Registers). Makes Stands fits tid steps (exec_state_of r memory held) now (exec_state_of s memory' held') later (made_of told))
        (sym (stored_told r told))
        (makes Stands fits closed fit tid steps (exec_state_of r memory held) now
        (exec_state_of (advanced r) memory' held') (Write tid first count) (Accessed (access.Write first count)) refl
        (store_step r from base offset known at_is n_is) later told observes)

  pub stops_store : (error : FaultKind) → ((r : Registers) → (Fault error, exec_state_of r memory' held') ≡ stores tid kind at n (exec_state_of r memory held))
      → MakesStore Stands fits tid steps kind at n memory held now memory' held' now made.Stops
  stops_store error faults r from base offset known at_is n_is =
      let here = exec_state_of r memory held in
      let there = exec_state_of r memory' held' in
      makes_none Stands fits closed fit tid steps here now there
      (state_kept tid (Store kind from base offset) here there (Fault error)
      (faults r ∙ ap (λ a. stores tid kind a n here) at_is ∙ ap (λ k. stores tid kind (add_offset (value r base) offset) k here) n_is)
      (λ accessed is. absurd (let no : Went accessed ≡ Fault error = sym is in cc)))

-- ---- a row whose next step was made
pub made_whole : (row new : Row) (answer : Made) → new ≡ made_row row answer → row.plain < row.left → new.told + new.left ≡ row.told + row.left
made_whole row new made.Taken is low = subst (λ (r : Row). r.told + r.left ≡ row.told + row.left) (sym is) (omega (arith, low))
made_whole row new made.Refused is low = subst (λ (r : Row). r.told + r.left ≡ row.told + row.left) (sym is) (omega (arith, low))
made_whole row new made.Stops is low = ap (λ (r : Row). r.told + r.left) is
made_whole row new made.OutOfMemory is low = subst (λ (r : Row). r.told + r.left ≡ row.told + row.left) (sym is) (omega (arith, low))

pub made_grows : (row new : Row) (answer : Made) → new ≡ made_row row answer → row.told + row.plain ≤ new.told + new.plain
made_grows row new made.Taken is = subst (λ (r : Row). row.told + row.plain ≤ r.told + r.plain) (sym is) (omega arith)
made_grows row new made.Refused is = subst (λ (r : Row). row.told + row.plain ≤ r.told + r.plain) (sym is) (omega arith)
made_grows row new made.Stops is = subst (λ (r : Row). row.told + row.plain ≤ r.told + r.plain) (sym is) (omega arith)
made_grows row new made.OutOfMemory is = subst (λ (r : Row). row.told + row.plain ≤ r.told + r.plain) (sym is) (omega arith)

module _ {O : Type 0} (Stands : O → List Event → Type 0) (fits : List Event → Bool) (tid : ℕ) (row : Row) (low : row.plain < row.left)
    (here : ExecState) (now : O) where
  -- it may be made
  pub may_make : (first : ExecState) (old : O) (most : ℕ) → HasRun Stands fits tid first old most row here now → MayMake Stands fits tid (row.plain + 1) here now
  may_make first old most run = record { row = row; low = low; count = refl; run = record { first = first; old = old; most = most; run = run } }

  -- and is counted
  pub counted : (there : ExecState) (later : O) (answer : Made) → Makes Stands fits tid (row.plain + 1) here now there later answer
      → (new : Row) → new ≡ made_row row answer → (result : Further) → further_of result ≡ made_answer answer
      → RunsOn Stands fits tid row here now new there later (further_of result)
  counted there later answer makes new is result same first old most run =
      subst (λ (r : Row). Runs Stands fits tid first old most r there later (further_of result)) (sym is)
      (subst (Runs Stands fits tid first old most (made_row row answer) there later) (sym same) (makes row low refl first old most run))
