-- What holds of the moves of a run of the guest, each of a thread that can run.
use Rattle.std.proofs.Common.{◌≡◌, ◌⊎◌, ℕ, zero, suc, ◌<◌, ◌≤◌, Bool, true, false, List, [], ◌∷◌, length, map, refl, sym, ap, subst, ◌∙◌, arith, inl, inr}
use Rattle.std.specs.Prelude.{◌==◌, ◌||◌, nat_eq, pred}
use Rattle.std.specs.List.{list_any}
use Rattle.std.proofs.lemmas.List.{length-map}
use Rattle.std.proofs.lemmas.Bool.{cases_eq}
use Rattle.std.proofs.lemmas.Bool.Decides.{nat_tests}
use Rattle.trace_model.specs.Cut.{past_after}
use Rattle.trace_model.specs.declared.event_kinds.Event.{Event}
use Rattle.trace_model.specs.WellFormed.{greatest_start}
use Rattle.guest_words.specs.declared.limits.TheConstants.{LAST_TID}
use Rattle.thread_sched.specs.TurnRule.{turn_of}
use Rattle.thread_sched.specs.declared.turns.Turn.{Turn}
use Rattle.thread_sched.specs.declared.turns.Turn.TheVariants as turn
use Rattle.elf_image.specs.Image.{Executable}
use Rattle.guest_kernel.specs.Inputs.{Input}
use Rattle.guest_kernel.specs.Kernel.{is_thread, ready}
use Rattle.guest_kernel.specs.declared.thread.Thread.{Thread}
use Rattle.guest_kernel.specs.Invariant.{RisesTo}
use Rattle.guest_machine.specs.declared.stepped.Stepped.{Stepped}
use Rattle.guest_machine.specs.declared.stepped.Stepped.TheVariants.{Went}
use Rattle.guest_machine.specs.Laws.{IsWithinLimits, KeepsThreads, MachineStandsFor}
use Rattle.guest_machine.specs.Machine.{Hart, MachineState, can_run}
use Rattle.guest_machine.specs.Start.{start}
use Rattle.guest_machine.specs.Step.{step}
use Rattle.guest_machine.specs.Waking.{woken}
use Rattle.guest_machine.proofs.ClockWakings.{every_waking_keeps}
use Rattle.guest_machine.proofs.Follows.{every_step_continues}
use Rattle.guest_machine.proofs.Limits.{every_step_within}
use Rattle.guest_run.specs.declared.turn_status.TurnStatus.{TurnStatus}
use Rattle.guest_run.specs.declared.turn_status.TurnStatus.TheVariants.{GoesOn, TurnOver, Ends}
use Rattle.guest_run.specs.Machine.{guest, turn_status_of}
use Rattle.guest_run.specs.Run.{Move, Position, Chosen, by_turn_status, by_turn, chosen, chosen_by, go_on, move_of, position_after, run_from}
use Rattle.guest_run.specs.Run.Chosen.{Moves, Stops}
use Rattle.guest_run.specs.ObservedRun.{first_past}
use Rattle.guest_run.proofs.Able.{step_able}
use Rattle.guest_run.proofs.Chosen.{turn-can}

-- the thread that moves next can run, in the machine or once all that are due are woken
abbrev pub IsChosenAble : MachineState → Chosen MachineState → Type 0
IsChosenAble m (Moves opens to) = ((to.state ≡ m) ⊎ (to.state ≡ woken m)) × (can_run to.state to.turns.last ≡ true)
IsChosenAble m (Stops finish) = Unit {0}

-- the thread whose turn goes on can run
abbrev pub IsAble : Position MachineState → Type 0
IsAble at = 0 < at.left → can_run at.state at.turns.last ≡ true

pub chosen_able : (at : Position MachineState) → IsAble at → IsChosenAble at.state (chosen guest at)
unfolding chosen
chosen_able at able = by at.left able
  where
    turned : (t : Turn) → turn_of at.turns (ready (woken at.state).kernel) ≡ t →
        IsChosenAble at.state (by_turn at.turns (woken at.state) t)
    turned (turn.Run tid most) is = (inr refl, turn-can at.turns (woken at.state).kernel tid most is)
    turned turn.Deadlock is = tt
    turned (turn.Mismatch line) is = tt

    by : (left : ℕ) → (0 < left → can_run at.state at.turns.last ≡ true) →
        IsChosenAble at.state (chosen_by guest at left)
    by zero able' = turned (turn_of at.turns (ready (woken at.state).kernel)) refl
    by (suc more) able' = (inl refl, able' (omega arith))

pub goes_went : (tid : ℕ) (outcome : Stepped) → turn_status_of tid outcome ≡ GoesOn → outcome ≡ Went
goes_went tid Went e = refl
goes_went tid _ e = absurd (cc)

-- A fact of the moves of every run from a past on, by a step of a thread that can run, where something is kept of the machine
-- and the past, also where threads are woken.
pub record Steps (Kept : MachineState → List Event → Type 0) (Holds : List Event → List Move → Type 0) : Type 0 where
  pub keeps : (m : MachineState) (tid : ℕ) (past : List Event) → Kept m past → can_run m tid ≡ true → Kept (step m tid).machine (past_after past (step m tid).events)
  pub wakes : (m : MachineState) (past : List Event) → Kept m past → Kept (woken m) past
  pub none : (past : List Event) → Holds past []
  pub moves : (opens : Bool) (m : MachineState) (tid : ℕ) (past : List Event) (moves : List Move) → Kept m past → can_run m tid ≡ true →
      Holds (past_after past (step m tid).events) moves → Holds past (move_of opens tid (guest.step m tid) ∷ moves)

abbrev pub HoldsFor : (MachineState → List Event → Type 0) → (List Event → List Move → Type 0) → ℕ → Type 0
HoldsFor Kept Holds fuel = (at : Position MachineState) (past : List Event) → Kept at.state past → IsAble at → Holds past (run_from guest fuel at).moves

pub each_move : (Kept : MachineState → List Event → Type 0) (Holds : List Event → List Move → Type 0) → Steps Kept Holds →
    (fuel : ℕ) → HoldsFor Kept Holds fuel
unfolding run_from
each_move Kept Holds steps zero at past kept able = steps.none past
each_move Kept Holds steps (suc more) at past kept able = by (chosen guest at) (chosen_able at able) (each_move Kept Holds steps more)
  where
    by_status : HoldsFor Kept Holds more → (opens : Bool) (to : Position MachineState) (turn_status : TurnStatus) → Kept to.state past →
        can_run to.state to.turns.last ≡ true →
        turn_status_of to.turns.last (step to.state to.turns.last).outcome ≡ turn_status →
        Holds past (by_turn_status (run_from guest more) (move_of opens to.turns.last (guest.step to.state to.turns.last)) to (step to.state to.turns.last).machine turn_status).moves
    by_status ih opens to GoesOn kept' can statuses =
        let tid = to.turns.last in
        let next = position_after to (step to.state tid).machine (pred to.left) in
        steps.moves opens to.state tid past (run_from guest more next).moves kept' can
        (ih next (past_after past (step to.state tid).events) (steps.keeps to.state tid past kept' can) (λ some. step_able to.state tid can (goes_went tid (step to.state tid).outcome statuses)))
    by_status ih opens to TurnOver kept' can statuses =
        let tid = to.turns.last in
        let next = position_after to (step to.state tid).machine 0 in
        steps.moves opens to.state tid past (run_from guest more next).moves kept' can
        (ih next (past_after past (step to.state tid).events) (steps.keeps to.state tid past kept' can) (λ some. absurd (omega (arith, some))))
    by_status ih opens to (Ends finish) kept' can statuses =
        let tid = to.turns.last in
        steps.moves opens to.state tid past [] kept' can (steps.none (past_after past (step to.state tid).events))

    by : (c : Chosen MachineState) → IsChosenAble at.state c → HoldsFor Kept Holds more → Holds past (go_on guest (run_from guest more) c).moves
    by (Moves opens to) is ih =
        let still : Kept to.state past = elim is.0 [
          | inl same ↦ subst (λ m. Kept m past) (sym same) kept
          | inr later ↦ subst (λ m. Kept m past) (sym later) (steps.wakes at.state past kept)
        ] in
        by_status ih opens to (guest.step to.state to.turns.last).turn_status still is.1 refl
    by (Stops finish) is ih = steps.none past

-- ---- runs from the start
-- the machine's threads are those that live after the past, at most as many as can, and with numbers of threads
abbrev pub IsSoundAfter : MachineState → List Event → Type 0
IsSoundAfter m past = MachineStandsFor m past × IsWithinLimits m

pub sound_next : (m : MachineState) (tid : ℕ) (past : List Event) → IsSoundAfter m past → can_run m tid ≡ true →
    IsSoundAfter (step m tid).machine (past_after past (step m tid).events)
sound_next m tid past sound can = ((every_step_continues m tid past sound.0 can).1, every_step_within m tid sound.0.same_threads sound.1)

-- a machine with the same threads stands for the same past
pub stands_kept : (m new : MachineState) (past : List Event) → KeepsThreads m new → MachineStandsFor m past → MachineStandsFor new past
stands_kept m new past keeps stands = record {
  same_threads = keeps.numbers ∙ stands.same_threads ∙ ap (map (λ (t : Thread). t.tid)) (sym keeps.threads);
  rising = subst (λ (ts : List Thread). RisesTo 0 ts new.kernel.last_tid) (sym keeps.threads) (subst (λ (n : ℕ). RisesTo 0 m.kernel.threads n) (sym keeps.last) stands.rising);
  live = λ tid. stands.live tid ∙ ap (list_any (is_thread tid)) (sym keeps.threads);
  started = subst (λ (n : ℕ). greatest_start past ≤ n) (sym keeps.last) stands.started;
}

pub limits_kept : (m new : MachineState) → KeepsThreads m new → IsWithinLimits m → IsWithinLimits new
limits_kept m new keeps within =
    let same : length new.harts ≡ length m.harts = sym (length-map new.harts (λ (h : Hart). h.0)) ∙ ap length keeps.numbers ∙ length-map m.harts (λ (h : Hart). h.0) in
    record {
      few = omega (arith, same, within.few);
      last = subst (λ (n : ℕ). n ≤ LAST_TID) (sym keeps.last) within.last;
    }

pub sound_woken : (m : MachineState) (past : List Event) → IsSoundAfter m past → IsSoundAfter (woken m) past
sound_woken m past sound =
    let keeps = every_waking_keeps m in
    (stands_kept m (woken m) past keeps sound.0, limits_kept m (woken m) keeps sound.1)

-- the first thread lives
one_live : (t : ℕ) → (nat_eq t 1 || false) ≡ ((1 == t) || false)
one_live t = elim (cases_eq t 1) [
  | inl same ↦
      let is : nat_eq t 1 ≡ true = grind (arith, nat_tests, same) in
      let back : (1 == t) ≡ true = grind (arith, nat_tests, same) in
      ap (λ (b : Bool). b || false) (is ∙ sym back)
  | inr differs ↦
      let is : nat_eq t 1 ≡ false = grind (arith, nat_tests, differs) in
      let back : (1 == t) ≡ false = grind (arith, nat_tests, differs) in
      ap (λ (b : Bool). b || false) (is ∙ sym back)
]

start_stands : (image : Executable) (arguments : List (List ℕ)) (inputs : List Input) (stdin : List ℕ) →
    MachineStandsFor (start image arguments inputs stdin) (first_past image.entry)
unfolding start
start_stands image arguments inputs stdin = record { same_threads = refl; rising = (omega arith, omega arith); live = one_live; started = omega arith }

pub start_sound : (image : Executable) (arguments : List (List ℕ)) (inputs : List Input) (stdin : List ℕ) →
    IsSoundAfter (start image arguments inputs stdin) (first_past image.entry)
unfolding start
start_sound image arguments inputs stdin = (start_stands image arguments inputs stdin, record { few = omega arith; last = omega arith })

-- no turn is under way at the start
pub start_able : (at : Position MachineState) → at.left ≡ 0 → IsAble at
start_able at over some = absurd (omega (arith, over, some))
