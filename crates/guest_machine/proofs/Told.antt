-- What is told of an instruction that went.
use Rattle.std.proofs.Common.{◌≡◌, ℕ, ◌+◌, ◌%◌, ◌^◌, List, [], ◌∷◌, ◌++◌, Bool, true, false, ap, ap₂, sym, refl, ◌∙◌, subst}
use Rattle.std.proofs.lemmas.List.{append-nil}
use Rattle.trace_model.specs.declared.event_kinds.Event.{Event}
use Rattle.trace_model.specs.declared.event_kinds.Event.TheVariants.{Step}
use Rattle.guest_words.specs.declared.endings.FaultKind.{FaultKind}
use Rattle.rv_isa.specs.declared.instruction.Instr.{Instr}
use Rattle.rv_isa.specs.declared.instruction.Instr.TheVariants.{Jal, Jalr, Branch, Load, Store, Atomic}
use Rattle.rv_exec.specs.Registers.{Registers}
use Rattle.rv_exec.specs.Effects.{ExecState, checked, effect}
use Rattle.rv_exec.specs.declared.outcome.Access.{Access}
use Rattle.rv_exec.specs.declared.outcome.Access.TheVariants as access
use Rattle.rv_exec.specs.declared.outcome.Outcome.{Outcome}
use Rattle.rv_exec.specs.declared.outcome.Outcome.TheVariants.{Went, Syscall, Fault}
use Rattle.call_tracker.specs.Links.{kind_of}
use Rattle.call_tracker.specs.declared.jumps.JumpKind.{JumpKind}
use Rattle.call_tracker.specs.declared.jumps.JumpKind.TheVariants as jumps
use Rattle.guest_machine.specs.Machine.{MachineState}
use Rattle.guest_machine.specs.declared.stepped.Stepped.{Stepped}
use Rattle.guest_machine.specs.Kept.{Parts, Steps, machine_of}
use Rattle.guest_machine.specs.Step.{StepResult, access_events, faulted, jump_events, pc_of, went}
use Rattle.guest_machine.specs.Told.{IsInstruction, done_by, stepped_of, told}
use Rattle.guest_machine.specs.Private.Telling.{IsAlone}
use Rattle.guest_machine.proofs.Executed.{Steps-faulted}
use Rattle.guest_machine.specs.declared.stepped.Stepped.TheVariants.{Faulted}
use Rattle.guest_machine.specs.declared.stepped.Advanced.{Advanced}
use Rattle.guest_machine.specs.declared.stepped.Advanced.TheVariants.{Ran, Accessed, Jumped, Other}

-- an outcome whose access, if there is one, is no call and no return
abbrev IsAloneIn : Outcome → JumpKind → Type 0
IsAloneIn (Went accessed) jump = IsAlone accessed jump
IsAloneIn Syscall jump = Unit {0}
IsAloneIn (Fault kind) jump = Unit {0}

no_jump : (o : Outcome) → IsAloneIn o jumps.Nothing
no_jump (Went access.Nothing) = tt
no_jump (Went (access.Read first count)) = refl
no_jump (Went (access.Write first count)) = refl
no_jump (Went (access.Both word)) = refl
no_jump Syscall = tt
no_jump (Fault kind) = tt

no_access : (test : Bool) (kind : FaultKind) (old new : Registers) (jump : JumpKind) → IsAloneIn (checked test kind old (λ _. (Went access.Nothing, new))).0 jump
no_access true kind old new jump = tt
no_access false kind old new jump = tt

effect_alone : (tid : ℕ) (i : Instr) (c : ExecState) → IsAloneIn (effect tid i c).0 (kind_of i)
effect_alone tid (Jal rd offset) c = no_access _ _ _ _ (kind_of (Jal rd offset))
effect_alone tid (Jalr rd base offset) c = no_access _ _ _ _ (kind_of (Jalr rd base offset))
effect_alone tid (Branch test left right offset) c = no_jump (effect tid (Branch test left right offset) c).0
effect_alone tid (Load kind rd base offset) c = no_jump (effect tid (Load kind rd base offset) c).0
effect_alone tid (Store kind from base offset) c = no_jump (effect tid (Store kind from base offset) c).0
effect_alone tid (Atomic op rd base from order) c = no_jump (effect tid (Atomic op rd base from order) c).0
effect_alone tid _ c = tt

pub is_alone : (tid : ℕ) (i : Instr) (old new : ExecState) (accessed : Access) → (Went accessed, new) ≡ effect tid i old → IsAlone accessed (kind_of i)
is_alone tid i old new accessed e = subst (λ (p : Outcome × ExecState). IsAloneIn p.0 (kind_of i)) (sym e) (effect_alone tid i old)

-- an instruction is told by its step and what it did beside
pub told_done : (tid : ℕ) (a : Advanced) → IsInstruction a → told tid a ≡ Step tid ∷ done_by tid a
told_done tid Ran is = refl
told_done tid (Accessed accessed) is = refl
told_done tid (Jumped jump target back) is = refl
told_done tid (Other outcome) is = absurd is

-- what is told is what the step gives
pub told-went : (m : MachineState) (tid : ℕ) (i : Instr) (accessed : Access) (c : ExecState) (before events : List Event) (target pc : ℕ) →
    events ≡ Step tid ∷ (access_events tid accessed ++ jump_events (kind_of i) tid target ((pc + 4) % 2 ^ 32)) → target ≡ c.registers.pc → pc ≡ pc_of m tid →
    before ++ events ≡ before ++ (went m tid i accessed c).events
told-went m tid i accessed c before events target pc are targets pcs =
    ap (λ (es : List Event). before ++ es)
    (are ∙ ap₂ (λ t n. Step tid ∷ (access_events tid accessed ++ jump_events (kind_of i) tid t ((n + 4) % 2 ^ 32))) targets pcs)

-- where nothing is told, the events are those that were added
pub Steps-told : (r : StepResult) (outcome : Stepped) (p : Parts) (before after : List Event) → Steps r outcome p before after → Steps r outcome p before (after ++ [])
Steps-told r outcome p before after steps = subst (λ (es : List Event). Steps r outcome p before es) (sym (append-nil after)) steps

-- the step of an instruction that can't run is told
pub Steps-fault : (p p1 p2 : Parts) (tid : ℕ) (kind : FaultKind) (at : ℕ) (a : Advanced) (r : StepResult) (old : List Event) → a ≡ Other (Faulted kind at) →
    machine_of p1 ≡ machine_of p → p2 ≡ record p1 { called = false } → r ≡ faulted (machine_of p) tid kind → at ≡ pc_of (machine_of p) tid →
    Steps r (stepped_of a) p2 old (old ++ told tid a)
unfolding machine_of
Steps-fault p p1 p2 tid kind at a r old is same changed faults place =
    subst (λ (b : Advanced). Steps r (stepped_of b) p2 old (old ++ told tid b)) (sym is)
    (Steps-told r (Faulted kind at) p2 old old (Steps-faulted p p2 tid kind at r old faults place (ap machine_of changed ∙ same) (ap (λ (q : Parts). q.called) changed)))
