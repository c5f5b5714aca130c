-- The events of a step are one short part of a trace.
use Rattle.std.proofs.Common.{◌≡◌, ℕ, ◌+◌, ◌%◌, ◌^◌, ◌≤◌, List, [], ◌∷◌, ◌++◌, length, length-append, map, refl, ap, arith, Ok, Err}
use Rattle.std.specs.Prelude.{Result}
use Rattle.std.specs.List.{sum_by}
use Rattle.std.proofs.lemmas.List.Sums.{sum_by-append, sum_by-cons}
use Rattle.guest_words.specs.declared.limits.TheConstants.{SYSCALL_EVENTS, THREADS}
use Rattle.guest_words.specs.declared.endings.FaultKind.{FaultKind}
use Rattle.rv_isa.specs.declared.instruction.Instr.{Instr}
use Rattle.rv_exec.specs.Effects.{ExecState, effect}
use Rattle.rv_exec.specs.Laws.{AccessesMemory, IsInMemory}
use Rattle.rv_exec.proofs.Reach.{effect_accesses}
use Rattle.rv_exec.specs.declared.outcome.Access.{Access}
use Rattle.rv_exec.specs.declared.outcome.Access.TheVariants as access
use Rattle.rv_exec.specs.declared.outcome.Outcome.{Outcome}
use Rattle.rv_exec.specs.declared.outcome.Outcome.TheVariants as outcome
use Rattle.call_tracker.specs.Links.{kind_of}
use Rattle.call_tracker.specs.declared.jumps.JumpKind.{JumpKind}
use Rattle.call_tracker.specs.declared.jumps.JumpKind.TheVariants.{Nothing}
use Rattle.trace_model.specs.declared.event_kinds.Event.{Event}
use Rattle.trace_model.specs.declared.event_kinds.Event.TheVariants.{Step, Read, Fill, End}
use Rattle.trace_model.specs.Parts.{count_read}
use Rattle.trace_model.specs.Profile.{steps}
use Rattle.trace_model.proofs.Parts.{part_weight}
use Rattle.guest_kernel.specs.declared.answer.Answer.{Answer}
use Rattle.guest_kernel.specs.declared.answer.Answer.TheVariants.{Back, ProcessEnd}
use Rattle.guest_calls.specs.Lawful.{AreCopies}
use Rattle.guest_calls.specs.Table.{syscall}
use Rattle.guest_calls.proofs.AllCalls.{every_syscall_is_lawful}
use Rattle.guest_machine.specs.declared.stepped.Stepped.{Stepped}
use Rattle.guest_machine.specs.declared.stepped.Stepped.TheVariants.{Faulted}
use Rattle.guest_machine.specs.Laws.{EveryStepIsOnePart, IsOnePart}
use Rattle.guest_machine.specs.Machine.{Hart, MachineState, later}
use Rattle.guest_machine.specs.Step.{access_events, after_effect, syscall_of, exec_state_of, executed, jump_events, life_events, next_instruction, pc_of, step, stepped_by}

pub steps-append : (xs ys : List Event) → steps (xs ++ ys) ≡ steps xs + steps ys
steps-append [] ys = omega arith
steps-append (Step tid ∷ xs) ys = omega (arith, steps-append xs ys)
steps-append (_ ∷ xs) ys = steps-append xs ys

-- Events of a step beside its own: none is a step, they are at most `most`, and they read at most `words` words.
record AreFew (events : List Event) (most words : ℕ) : Type 0 where
  stepless : steps events ≡ 0
  few : length events ≤ most
  reads : sum_by count_read events ≤ words

few-append : (xs ys : List Event) (n m k l : ℕ) → AreFew xs n k → AreFew ys m l → AreFew (xs ++ ys) (n + m) (k + l)
few-append xs ys n m k l front back = record {
  stepless = omega (arith, steps-append xs ys, front.stepless, back.stepless);
  few = omega (arith, length-append xs ys, front.few, back.few);
  reads = omega (arith, sum_by-append count_read xs ys, front.reads, back.reads);
}

-- ---- the copies of a call
copies_stepless : (tid : ℕ) (events : List Event) → AreCopies tid events → steps events ≡ 0
copies_stepless tid [] copies = refl
copies_stepless tid (Read t first count ∷ events) copies = copies_stepless tid events copies.1
copies_stepless tid (Fill first count ∷ events) copies = copies_stepless tid events copies.1
copies_stepless tid (_ ∷ events) copies = absurd copies.0

-- events of which each weighs one and a word more for each that it reads are some where a word is read
fewer_words : (events : List Event) (n : ℕ) → length events + sum_by count_read events ≤ n + 1 → sum_by count_read events ≤ n
fewer_words [] n light = omega arith
fewer_words (e ∷ events) n light = omega (arith, light)

call_few : (m : MachineState) (tid : ℕ) → AreFew (syscall (syscall_of (later m) tid)).guest.events SYSCALL_EVENTS 65535
call_few m tid =
    let c = syscall_of (later m) tid in
    let events = (syscall c).guest.events in
    let lawful = every_syscall_is_lawful c in
    record {
      stepless = copies_stepless tid events lawful.copies;
      few = lawful.few;
      reads = fewer_words events 65535 (omega (arith, part_weight events, lawful.light));
    }

-- ---- the other events of a step
access_few : (tid : ℕ) (a : Access) → IsInMemory a → AreFew (access_events tid a) 2 2
access_few tid (access.Read first count) inside =
    let words = sum_by-cons count_read (Read tid first count) [] in
    record { stepless = refl; few = omega arith; reads = omega (arith, words, inside.1) }
access_few tid _ inside = record { stepless = refl; few = omega arith; reads = omega arith }

jump_few : (kind : JumpKind) (tid target back : ℕ) → AreFew (jump_events kind tid target back) 2 0
jump_few Nothing tid target back = record { stepless = refl; few = omega arith; reads = omega arith }
jump_few _ tid target back = record { stepless = refl; few = omega arith; reads = omega arith }

ends_few : (harts : List Hart) → AreFew (map (λ (h : Hart). End h.0) harts) (length harts) 0
ends_few [] = record { stepless = refl; few = omega arith; reads = omega arith }
ends_few (h ∷ harts) =
    let rest = ends_few harts in
    let words = sum_by-cons count_read (End h.0) (map (λ (h : Hart). End h.0) harts) in
    record { stepless = rest.stepless; few = omega (arith, rest.few); reads = omega (arith, words, rest.reads) }

life_few : (answer : Answer) (harts : List Hart) (tid : ℕ) → AreFew (life_events answer harts tid) (length harts + 1) 0
life_few (ProcessEnd status) harts tid =
    let ends = ends_few harts in
    record { stepless = ends.stepless; few = omega (arith, ends.few); reads = ends.reads }
life_few _ harts tid = record { stepless = refl; few = omega arith; reads = omega arith }

-- ---- a step
-- one where the step faulted
abbrev pub faulted : Stepped → ℕ
faulted (Faulted kind at) = 1
faulted _ = 0

-- The events are none, of a fault; or the thread's step and few others, by how many threads live.
abbrev IsStepWith : ℕ → ℕ → List Event → Stepped → Type 0
IsStepWith tid threads [] outcome = faulted outcome ≡ 1
IsStepWith tid threads (e ∷ events) outcome = (e ≡ Step tid) × AreFew events (threads + (SYSCALL_EVENTS + 1)) 65535 × (faulted outcome ≡ 0)

few_weaker : (events : List Event) (n m k l : ℕ) → AreFew events n k → n ≤ m → k ≤ l → AreFew events m l
few_weaker events n m k l are more words = record {
  stepless = are.stepless;
  few = omega (arith, are.few, more);
  reads = omega (arith, are.reads, words);
}

call_goes : (answer : Answer) → faulted (stepped_by answer) ≡ 0
call_goes (Back value) = refl
call_goes _ = refl

effect_part : (m : MachineState) (tid : ℕ) (i : Instr) (given : Outcome × ExecState) → AccessesMemory given.0 →
    IsStepWith tid (length m.harts) (after_effect m tid i given).events (after_effect m tid i given).outcome
effect_part m tid i (outcome.Went accessed, c) inside =
    let back = (pc_of m tid + 4) % 2 ^ 32 in
    let rest = few-append (access_events tid accessed) (jump_events (kind_of i) tid c.registers.pc back) 2 2 2 0 (access_few tid accessed inside) (jump_few (kind_of i) tid c.registers.pc back) in
    (refl, few_weaker _ 4 (length m.harts + (SYSCALL_EVENTS + 1)) 2 65535 rest (omega arith) (omega arith), refl)
effect_part m tid i (outcome.Fault kind, c) inside = refl
effect_part m tid i (outcome.Syscall, c) inside =
    let r = syscall (syscall_of (later m) tid) in
    let rest = few-append r.guest.events (life_events r.answer m.harts tid) SYSCALL_EVENTS (length m.harts + 1) 65535 0 (call_few m tid) (life_few r.answer m.harts tid) in
    (refl, few_weaker _ (SYSCALL_EVENTS + (length m.harts + 1)) (length m.harts + (SYSCALL_EVENTS + 1)) 65535 65535 rest (omega arith) (omega arith), call_goes r.answer)

executed_part : (m : MachineState) (tid : ℕ) (found : Result Instr FaultKind) →
    IsStepWith tid (length m.harts) (executed m tid found).events (executed m tid found).outcome
executed_part m tid (Ok i) = effect_part m tid i (effect tid i (exec_state_of m tid)) (effect_accesses tid i (exec_state_of m tid))
executed_part m tid (Err kind) = refl

step_part : (m : MachineState) (tid : ℕ) → IsStepWith tid (length m.harts) (step m tid).events (step m tid).outcome
unfolding step
step_part m tid = executed_part m tid (next_instruction m tid)

one_part : (tid threads : ℕ) (events : List Event) (outcome : Stepped) → IsStepWith tid threads events outcome → threads ≤ THREADS →
    IsOnePart tid events
one_part tid threads [] outcome part few = tt
one_part tid threads (e ∷ events) outcome part few =
    let none : count_read e ≡ 0 = ap count_read part.0 in
    let words = sum_by-cons count_read e events in
    (part.0, part.1.stepless, record { events = omega (arith, part.1.few, few); words = omega (arith, words, none, part.1.reads) })

pub every_step_part : EveryStepIsOnePart
every_step_part m tid few = one_part tid (length m.harts) (step m tid).events (step m tid).outcome (step_part m tid) few

-- a step has one step event, and a fault none
part_counts : (tid threads : ℕ) (events : List Event) (outcome : Stepped) → IsStepWith tid threads events outcome →
    steps events + faulted outcome ≡ 1
part_counts tid threads [] outcome part = omega (arith, part)
part_counts tid threads (e ∷ events) outcome part =
    let own : steps (e ∷ events) ≡ steps (Step tid ∷ events) = ap (λ (x : Event). steps (x ∷ events)) part.0 in
    omega (arith, own, part.1.stepless, part.2)

pub step_counts : (m : MachineState) (tid : ℕ) → steps (step m tid).events + faulted (step m tid).outcome ≡ 1
step_counts m tid = part_counts tid (length m.harts) (step m tid).events (step m tid).outcome (step_part m tid)
