-- Steps of a thread on its registers, the memory and the reservations alone.
use Rattle.std.proofs.Common.{◌≡◌, ℕ, suc, ◌+◌, ◌-◌, ◌<◌, ◌%◌, ◌^◌, Bool, true, false, cond, List, [], ◌∷◌, ◌++◌, Some, Ok, refl, sym, ap, subst, ◌∙◌, arith, append-nil, append_assoc}
use Rattle.std.specs.Prelude.{◌==◌, is_some}
use Rattle.guest_words.specs.ByThread.{value_of}
use Rattle.guest_words.specs.declared.limits.TheConstants.{THREADS}
use Rattle.guest_memory.specs.Code.{IsInstructionAt}
use Rattle.guest_memory.specs.Memory.{Memory}
use Rattle.guest_memory.specs.Reserved.{HoldAtMost, without_thread}
use Rattle.rv_isa.specs.declared.instruction.Instr.{Instr}
use Rattle.rv_exec.specs.Effects.{ExecState, effect}
use Rattle.rv_exec.specs.Laws.{KeepsUnlessWent}
use Rattle.rv_exec.specs.Registers.{Registers}
use Rattle.rv_exec.specs.declared.outcome.Access.{Access}
use Rattle.rv_exec.specs.declared.outcome.Outcome.{Outcome}
use Rattle.rv_exec.specs.declared.outcome.Outcome.TheVariants as outcome
use Rattle.rv_exec.proofs.CallerLemmas.{effect_kept}
use Rattle.trace_model.specs.declared.event_kinds.Event.{Event}
use Rattle.trace_model.specs.declared.event_kinds.Event.TheVariants.{Step}
use Rattle.trace_model.specs.declared.observer.Observed.TheVariants.{Taken, Refused}
use Rattle.trace_model.specs.Cut.{cut, past_after}
use Rattle.trace_model.specs.Observing.{MayTakeAll, ObservesAll, StepsFit}
use Rattle.trace_model.specs.WellFormed.{IsWellFormed}
use Rattle.trace_model.proofs.Cut.{cut-fits, past_after-append}
use Rattle.trace_model.proofs.Feeding.{fits_on}
use Rattle.call_tracker.specs.Links.{kind_of}
use Rattle.guest_kernel.specs.Kernel.{later_by}
use Rattle.guest_machine.specs.Private.Carrying.{Carries, GoesWith, IsStateOf, StepsTo, carried, went_to}
use Rattle.guest_machine.specs.Machine.{Hart, MachineState, can_run, later, registers_of, with_registers}
use Rattle.guest_machine.specs.Running.{MayTakeSteps, ObservesSteps, after_steps, events_of_steps}
use Rattle.guest_machine.specs.Sound.{IsSoundMachine}
use Rattle.guest_machine.specs.Step.{StepResult, access_events, decoded_or_illegal, exec_state_of, executed, instruction_at, instruction_in, jump_events, step, with_exec_state}
use Rattle.guest_machine.specs.Told.{steps_of}
use Rattle.guest_machine.proofs.Handed.{past_of_steps}
use Rattle.guest_machine.proofs.Executed.{executed-went, sound-state, unchanged}
use Rattle.guest_machine.proofs.Holders.{HoldAtMost-others, lives_kept}
use Rattle.guest_machine.proofs.Registers.{pc_aligned, registers_are, value-with_registers}

-- what is known is what the step runs
pub known_is : (m : Memory) (at : ℕ) (i : Instr) → IsInstructionAt m at i → instruction_at m at ≡ Ok i
known_is m at i is = ap instruction_in is.loads ∙ ap decoded_or_illegal is.stands

-- ---- what holds of the state that a thread works on
pub state_aligned : (c : ExecState) (tid : ℕ) (m : MachineState) → IsStateOf c tid m → c.registers.pc % 4 ≡ 0
state_aligned c tid m is =
    subst (λ (s : ExecState). s.registers.pc % 4 ≡ 0) is.state (pc_aligned m.harts tid is.sound.aligned)

pub state_holders : (c : ExecState) (tid : ℕ) (m : MachineState) → IsStateOf c tid m → HoldAtMost (without_thread c.held tid) (THREADS - 1)
state_holders c tid m is =
    subst (λ (s : ExecState). HoldAtMost (without_thread s.held tid) (THREADS - 1)) is.state (HoldAtMost-others m tid is.sound is.able)

pub state_is : (m : MachineState) (tid : ℕ) (r : Registers) → value_of m.harts tid ≡ Some r → IsSoundMachine m → can_run m tid ≡ true →
    IsStateOf (record { registers = r; memory = m.memory; held = m.held }) tid m
state_is m tid r here sound able = record {
  state = ap (λ (s : Registers). let c : ExecState = record { registers = s; memory = m.memory; held = m.held } in c) (registers_are m.harts tid r here);
  sound = sound;
  able = able;
}

-- the thread has the state that it got
state_got : (m : MachineState) (tid : ℕ) (c : ExecState) → is_some (value_of m.harts tid) ≡ true → exec_state_of (with_exec_state m tid c) tid ≡ c
state_got m tid c lives =
    ap (λ (r : Registers). let s : ExecState = record { registers = r; memory = c.memory; held = c.held } in s)
    (registers_are (with_registers m.harts tid c.registers) tid c.registers (value-with_registers m.harts tid c.registers lives))

-- ---- one step
pub steps_to : (m : MachineState) (tid : ℕ) (old : ExecState) → IsStateOf old tid m → (i : Instr) → instruction_at old.memory old.registers.pc ≡ Ok i →
    (accessed : Access) (c : ExecState) → (outcome.Went accessed, c) ≡ effect tid i old → (events : List Event) →
    events ≡ Step tid ∷ (access_events tid accessed ++ jump_events (kind_of i) tid c.registers.pc ((old.registers.pc + 4) % 2 ^ 32)) →
    StepsTo m tid c events
unfolding step
steps_to m tid old is i known accessed c effects events are =
    let next : instruction_at m.memory (registers_of m.harts tid).pc ≡ Ok i = ap (λ (s : ExecState). instruction_at s.memory s.registers.pc) is.state ∙ known in
    let does : (outcome.Went accessed, c) ≡ effect tid i (exec_state_of m tid) = effects ∙ ap (effect tid i) (sym is.state) in
    let told : ℕ → List Event = λ pc. Step tid ∷ (access_events tid accessed ++ jump_events (kind_of i) tid c.registers.pc ((pc + 4) % 2 ^ 32)) in
    let same : told (registers_of m.harts tid).pc ≡ events = ap (λ (s : ExecState). told s.registers.pc) is.state ∙ sym are in
    record {
      is = ap (executed m tid) next ∙ executed-went m tid i accessed c does ∙ ap (went_to m tid c) same;
      of = record {
        state = state_got (later m) tid c (lives_kept m tid is.sound is.able);
        sound = sound-state m tid i (outcome.Went accessed) c does is.sound is.able;
        able = is.able;
      };
    }

-- an instruction that did not go on changed nothing
pub state_kept : (tid : ℕ) (i : Instr) (old new : ExecState) (o : Outcome) → (o, new) ≡ effect tid i old → ((access : Access) → o ≡ outcome.Went access → ⊥) → new ≡ old
state_kept tid i old new o e stays = by o refl
  where
    kept : KeepsUnlessWent o old new
    kept = subst (λ (p : Outcome × ExecState). KeepsUnlessWent p.0 old p.1) (sym e) (effect_kept tid i old)

    by : (p : Outcome) → o ≡ p → new ≡ old
    by (outcome.Went access) is = absurd (stays access is)
    by outcome.Syscall is = subst (λ (p : Outcome). KeepsUnlessWent p old new) is kept
    by (outcome.Fault kind) is = subst (λ (p : Outcome). KeepsUnlessWent p old new) is kept

-- ---- steps in a row
with-with : (harts : List Hart) (tid : ℕ) (r s : Registers) → with_registers (with_registers harts tid r) tid s ≡ with_registers harts tid s
with-with [] tid r s = refl
with-with (h ∷ harts) tid r s = by (h.0 == tid) refl (with-with harts tid r s)
  where
    by : (b : Bool) → (h.0 == tid) ≡ b → with_registers (with_registers harts tid r) tid s ≡ with_registers harts tid s →
        with_registers (cond b ((h.0, r) ∷ harts) (h ∷ with_registers harts tid r)) tid s ≡ cond b ((h.0, s) ∷ harts) (h ∷ with_registers harts tid s)
    by true is rest = rw is refl
    by false is rest = rw is (ap (λ hs. h ∷ hs) rest)

pub carries_none : (m : MachineState) (tid : ℕ) (c : ExecState) → IsStateOf c tid m → Carries m tid c 0
carries_none m tid c is = record {
  all = tt;
  machine = unchanged m tid c (with_registers m.harts tid c.registers) (lives_kept m tid is.sound is.able) refl (sym is.state);
  of = is;
}

module _ (m : MachineState) (tid : ℕ) (c : ExecState) (n : ℕ) (so_far : Carries m tid c n) (new : ExecState) (events : List Event)
    (steps : StepsTo (after_steps m tid n) tid new events) where
  there : (after_steps m tid (suc n)) ≡ with_exec_state (later (after_steps m tid n)) tid new
  there = ap (λ (r : StepResult). r.machine) steps.is

  after : with_exec_state (later (after_steps m tid n)) tid new ≡ carried m tid new (suc n)
  after =
      ap (λ (k : MachineState). with_exec_state (later k) tid new) (sym so_far.machine)
      ∙ ap (λ (harts : List Hart). let k : MachineState = record { harts = harts; kernel = later_by (suc n) m.kernel; memory = new.memory; held = new.held } in k)
      (with-with m.harts tid c.registers new.registers)

  carries_suc : Carries m tid new (suc n)
  carries_suc = record {
    all = (so_far.all, record { outcome = ap (λ (r : StepResult). r.outcome) steps.is; out = ap (λ (r : StepResult). r.out) steps.is });
    machine = sym (there ∙ after);
    of = subst (IsStateOf new tid) (sym there) steps.of;
  }

  pub carries_one_more : Carries m tid new (n + 1)
  carries_one_more = subst (Carries m tid new) (let e : suc n ≡ n + 1 = omega arith in e) carries_suc

  -- the events of the step
  events-there : events_of_steps m tid (suc n) ≡ events_of_steps m tid n ++ events
  events-there = ap (λ (r : StepResult). events_of_steps m tid n ++ r.events) steps.is

-- ---- more steps in a row, with their events
pub goes_none : (m : MachineState) (tid n : ℕ) (c : ExecState) → Carries m tid c n → GoesWith m tid n c 0 []
goes_none m tid n c carries =
    let same : n ≡ n + 0 = omega arith in
    record { carries = subst (Carries m tid c) same carries; told = ap (events_of_steps m tid) (sym same) ∙ sym (append-nil (events_of_steps m tid n)) }

goes_one_more : (m : MachineState) (tid n k : ℕ) (c : ExecState) (events : List Event) → GoesWith m tid n c k events → (new : ExecState) (more : List Event) →
    StepsTo (after_steps m tid (n + k)) tid new more → GoesWith m tid n new (k + 1) (events ++ more)
goes_one_more m tid n k c events goes new more steps = record {
  carries = subst (Carries m tid new) (let e : n + k + 1 ≡ n + (k + 1) = omega arith in e) (carries_one_more m tid c (n + k) goes.carries new more steps);
  told =
      ap (events_of_steps m tid) (let e : n + (k + 1) ≡ suc (n + k) = omega arith in e)
      ∙ events-there m tid c (n + k) goes.carries new more steps
      ∙ ap (λ es. es ++ more) goes.told
      ∙ append_assoc (events_of_steps m tid n) events more;
}

-- a step that did nothing beside, and one that did
pub goes_plainly : (m : MachineState) (tid n k : ℕ) (c : ExecState) → GoesWith m tid n c k (steps_of tid k) → (new : ExecState) →
    StepsTo (after_steps m tid (n + k)) tid new (Step tid ∷ []) → GoesWith m tid n new (k + 1) (steps_of tid (k + 1))
goes_plainly m tid n k c goes new steps =
    subst (λ j. GoesWith m tid n new (k + 1) (steps_of tid j)) (let e : suc k ≡ k + 1 = omega arith in e)
    (goes_one_more m tid n k c (steps_of tid k) goes new (Step tid ∷ []) steps)

step_then : (tid k : ℕ) (done : List Event) → steps_of tid k ++ Step tid ∷ done ≡ steps_of tid (k + 1) ++ done
step_then tid k done =
    sym (append_assoc (steps_of tid k) (Step tid ∷ []) done) ∙ ap (λ j. steps_of tid j ++ done) (let e : suc k ≡ k + 1 = omega arith in e)

pub goes_then : (m : MachineState) (tid n k : ℕ) (c : ExecState) → GoesWith m tid n c k (steps_of tid k) → (new : ExecState) (done : List Event) →
    StepsTo (after_steps m tid (n + k)) tid new (Step tid ∷ done) → GoesWith m tid n new (k + 1) (steps_of tid (k + 1) ++ done)
goes_then m tid n k c goes new done steps =
    subst (GoesWith m tid n new (k + 1)) (step_then tid k done) (goes_one_more m tid n k c (steps_of tid k) goes new (Step tid ∷ done) steps)

-- ---- and what an observer has of them
module _ {O : Type 0} (Stands : O → List Event → Type 0) (fits : List Event → Bool) (fit : StepsFit fits) (m : MachineState) (tid n k : ℕ) (c : ExecState)
    (plain : GoesWith m tid n c k (steps_of tid k)) (old mid : O) (seen : ObservesSteps Stands fits m tid old mid n Taken) where
  abbrev here : List Event → List Event
  here past = past_after past (events_of_steps m tid n)

  fits_plain : (past : List Event) → Stands old past → fits past ≡ true → fits (past_after past (events_of_steps m tid (n + k))) ≡ true
  fits_plain past stood fitting =
      ap fits (ap (past_after past) plain.told ∙ past_after-append past (events_of_steps m tid n) (steps_of tid k) ∙ past_of_steps tid k (here past))
      ∙ fits_on fits fit tid k (here past) (seen past stood fitting).1

  abbrev last : List Event
  last = (step (after_steps m tid (n + k)) tid).events

  formed_next : (most : ℕ) → n + k < most → (may : MayTakeSteps Stands fits old m tid most) →
      IsWellFormed (past_after (here may.past) (steps_of tid k ++ last))
  formed_next most low may =
      subst IsWellFormed
      (ap (past_after may.past) (ap (λ es. es ++ last) plain.told ∙ append_assoc (events_of_steps m tid n) (steps_of tid k) last)
      ∙ past_after-append may.past (events_of_steps m tid n) (steps_of tid k ++ last))
      (may.formed (n + k) low plain.carries.all (fits_plain may.past may.now may.fitting))

  module _ (j : ℕ) (events : List Event) (new : ExecState) (goes : GoesWith m tid n new j events) where
    whole : (past : List Event) → past_after (here past) events ≡ past_after past (events_of_steps m tid (n + j))
    whole past = sym (ap (past_after past) goes.told ∙ past_after-append past (events_of_steps m tid n) events)

    pub observes_more : (watched : O) → ObservesAll Stands fits events mid watched Taken → ObservesSteps Stands fits m tid old watched (n + j) Taken
    observes_more watched observes past stood fitting =
        let before = seen past stood fitting in
        let now = observes (here past) before.0 before.1 in
        let same = whole past in
        (subst (Stands watched) (cut-fits fits _ now.1 ∙ same) now.0, ap fits (sym same) ∙ now.1)

  -- one more step, which did something beside
  module _ (done : List Event) (new : ExecState) (steps : StepsTo (after_steps m tid (n + k)) tid new (Step tid ∷ done)) where
    pub may_take_then : (most : ℕ) → n + k < most → MayTakeSteps Stands fits old m tid most → MayTakeAll Stands fits mid (steps_of tid (k + 1) ++ done)
    may_take_then most low may =
        let now = seen may.past may.now may.fitting in
        record {
          past = here may.past;
          now = now.0;
          fitting = now.1;
          formed = subst (λ es. IsWellFormed (past_after (here may.past) es))
              (ap (λ (r : StepResult). steps_of tid k ++ r.events) steps.is ∙ step_then tid k done) (formed_next most low may);
        }

    pub observes_last : (watched : O) → ObservesAll Stands fits (steps_of tid (k + 1) ++ done) mid watched Refused →
        ObservesSteps Stands fits m tid old watched (n + (k + 1)) Refused
    observes_last watched observes =
        let goes = goes_then m tid n k c plain new done steps in
        let after : n + (k + 1) ≡ suc (n + k) = omega arith in
        subst (λ j. ObservesSteps Stands fits m tid old watched j Refused) (sym after)
        (λ past stood fitting.
        let before = seen past stood fitting in
        let now = observes (here past) before.0 before.1 in
        let same : past_after (here past) (steps_of tid (k + 1) ++ done) ≡ past_after past (events_of_steps m tid (suc (n + k))) =
        whole (k + 1) (steps_of tid (k + 1) ++ done) new goes past ∙ ap (λ j. past_after past (events_of_steps m tid j)) after in
        (fits_plain past stood fitting, subst (λ p. Stands watched (cut fits p)) same now.0, ap fits (sym same) ∙ now.1))
