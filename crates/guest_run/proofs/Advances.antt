-- One move of a run that is observed.
use Rattle.std.proofs.Common.{◌≡◌, ℕ, zero, suc, ◌+◌, ◌-◌, ◌<◌, ◌≤◌, Bool, true, false, cond, List, [], ◌∷◌, ◌++◌, length, length-append, refl, sym, ap, subst, ◌∙◌, append-nil, append_assoc, arith, Err, inl, inr}
use Rattle.std.specs.Prelude.{pred}
use Rattle.guest_words.specs.declared.endings.Finish.{Finish}
use Rattle.guest_words.specs.declared.endings.Finish.TheVariants.{Budget, Deep}
use Rattle.guest_words.specs.declared.limits.TheConstants.{RUN_STEPS}
use Rattle.trace_model.specs.declared.event_kinds.Event.{Event}
use Rattle.trace_model.specs.Cut.{IsPrefixClosed, cut, past_after}
use Rattle.trace_model.specs.Observing.{MayTakeAll}
use Rattle.trace_model.specs.Profile.{steps}
use Rattle.thread_sched.specs.TurnRule.{SchedulerState}
use Rattle.trace_model.proofs.Cut.{cut-fits}
use Rattle.guest_machine.specs.Laws.{KeepsThreads}
use Rattle.guest_machine.specs.Machine.{MachineState, can_run}
use Rattle.guest_machine.specs.Step.{step}
use Rattle.guest_run.specs.declared.turn_status.TurnStatus.{TurnStatus}
use Rattle.guest_run.specs.declared.turn_status.TurnStatus.TheVariants.{GoesOn, TurnOver, Ends}
use Rattle.guest_kernel.specs.declared.channel.Channel.{Channel}
use Rattle.guest_run.specs.declared.run_error.RunError.{RunError}
use Rattle.guest_run.specs.declared.run_error.RunError.TheVariants.{CannotPut, Memory}
use Rattle.guest_run.specs.declared.turns.Choice.TheVariants as choice
use Rattle.guest_run.specs.declared.turns.CurrentTurn.{CurrentTurn}
use Rattle.guest_run.specs.declared.turns.Recorder.{Recorder}
use Rattle.guest_run.specs.Private.CurrentTurn.{IsUnderWay, chosen_of, position, recorded}
use Rattle.guest_run.specs.Private.Going.{Advances, IsGoing, IsOver, IsPastOf, Leads, Standing, observed, past_by, with_moves}
use Rattle.guest_run.specs.Private.Going as going
use Rattle.guest_run.specs.Machine.{Machine, Progress, guest}
use Rattle.guest_run.specs.Output.{FailsOn, Sinks, with_output}
use Rattle.guest_run.specs.Private.Steps.{with_sent, IsStepped, StepEnds}
use Rattle.guest_run.specs.ObservedRun.{ObservedRun, observed_run}
use Rattle.guest_run.specs.Run.{Move, Position, WrittenRun, after_step, by_turn_status, chosen, go_on, move_of, position_after, recording, run_from, with_move}
use Rattle.guest_run.specs.Run.Chosen.{Moves, Stops}
use Rattle.guest_run.specs.RunEnds.{IsGivenUp, StopsAtPut}
use Rattle.guest_run.proofs.Able.{step_able}
use Rattle.guest_run.proofs.Guarded.{goes_went}
use Rattle.guest_run.proofs.Observed.{observed-after, past-last, observed_run-deep, observed_run-head, observed_run-none, observed_run-one, with_first}
use Rattle.guest_run.proofs.Output.{output-last}
use Rattle.guest_run.proofs.Pasts.{past_kept, past_step, step_adds}

-- ---- what is left of a run, by what is chosen and by the step
run-stops : {State : Type 0} (machine : Machine State) (more : ℕ) (at : Position State) (finish : Finish) →
    chosen machine at ≡ Stops finish → run_from machine (suc more) at ≡ record { moves = []; finish = finish }
unfolding run_from
run-stops machine more at finish e = ap (go_on machine (run_from machine more)) e

run-moves : {State : Type 0} (machine : Machine State) (more : ℕ) (at : Position State) (opens : Bool) (to : Position State) →
    chosen machine at ≡ Moves opens to →
    run_from machine (suc more) at ≡ after_step (run_from machine more) opens to (machine.step to.state to.turns.last)
unfolding run_from
run-moves machine more at opens to e = ap (go_on machine (run_from machine more)) e

-- the events of its next step may come
pub may_take : {W : Type 0} (Stands : W → List Event → Type 0) (fits : List Event → Bool) (first : List Event) (start : Position MachineState)
    (moves : List Move) (r : Standing) (observer : W) → IsGoing Stands fits first start moves r observer → length moves < RUN_STEPS →
    (now : MachineState) → KeepsThreads r.state now → (tid : ℕ) → can_run now tid ≡ true →
    MayTakeAll Stands fits observer (guest.step now tid).events
may_take Stands fits first start moves r observer going room now kept tid can = record {
  past = past_by first moves;
  now = going.stands;
  fitting = going.fitting;
  formed = (past_step now tid (past_by first moves) (past_kept r.state now (past_by first moves) kept going.past) can (omega (arith, going.few_steps, room))).formed;
}

-- where the run stands, what the step of a thread gives, and the move that it is
abbrev at_of : Standing → Position MachineState
at_of r = position r.state r.turn

abbrev given_of : MachineState → ℕ → Progress MachineState
given_of now tid = guest.step now tid

abbrev made_of : MachineState → CurrentTurn → Bool → Move
made_of now turn opens = move_of opens turn.tid (given_of now turn.tid)

-- the run by the step's status
abbrev rest_by : MachineState → CurrentTurn → Bool → ℕ → TurnStatus → WrittenRun
rest_by now turn opens n status =
    by_turn_status (run_from guest n) (made_of now turn opens) (position now turn) (given_of now turn.tid).state status

rest-head : (now : MachineState) (turn : CurrentTurn) (opens : Bool) (n : ℕ) (status : TurnStatus) → (run : WrittenRun) × (rest_by now turn opens n status ≡ with_move (made_of now turn opens) run)
rest-head now turn opens n GoesOn = (_, refl)
rest-head now turn opens n TurnOver = (_, refl)
rest-head now turn opens n (Ends finish) = (record { moves = []; finish = finish }, refl)

module _ {W : Type 0} (Stands : W → List Event → Type 0) (fits : List Event → Bool) (closed : IsPrefixClosed fits)
    (first : List Event) (start : Position MachineState) (moves : List Move) (before : Sinks)
    (old : Standing) (watcher : W) (goes : IsGoing Stands fits first start moves old watcher) (mid : Sinks) (put : mid ≡ with_output moves before) where
  whole : (n : ℕ) → observed fits first start (length moves + n) ≡ with_first moves (observed_run fits (past_by first moves) (run_from guest n (at_of old)))
  whole n = observed-after fits closed first start (at_of old) moves goes.leads goes.fitting n

  -- it is given up before the move
  pub gives_up : (n : ℕ) → IsGivenUp (observed fits first start (length moves + suc n)).moves before mid
  gives_up n = record { earlier = moves; later = _; are = sym (ap (λ (p : ObservedRun). p.moves) (whole (suc n))); output = put }

  -- where no move is made any more, this is observed
  over-none : (finish : Finish) (n : ℕ) → run_from guest n (at_of old) ≡ record { moves = []; finish = finish } → (new : Standing) → new.recorder ≡ old.recorder →
      IsOver Stands (observed fits first start (length moves + n)) before new watcher mid finish
  over-none finish n rest new same =
      let p : ObservedRun = record { moves = moves ++ []; past = past_by first moves; finish = finish } in
      let ends : observed fits first start (length moves + n) ≡ p =
      whole n ∙ ap (λ run. with_first moves (observed_run fits (past_by first moves) run)) rest
      ∙ ap (with_first moves) (observed_run-none fits closed (past_by first moves) finish goes.fitting) in
      subst (λ q. IsOver Stands q before new watcher mid finish) (sym ends) (record {
        past = goes.stands;
        output = put ∙ ap (λ ms. with_output ms before) (sym (append-nil moves));
        turns = ap (λ (k : Recorder). recorded k []) same ∙ goes.turns [];
        finish_is = refl;
      })

  pub over_stopped : (now : MachineState) (turn : CurrentTurn) (finish : Finish) → chosen guest (at_of old) ≡ chosen_of now turn (choice.Stops finish) →
      (new : Standing) → new.recorder ≡ old.recorder → (n : ℕ) → IsOver Stands (observed fits first start (length moves + suc n)) before new watcher mid finish
  over_stopped now turn finish chose new same n = over-none finish (suc n) (run-stops guest n (at_of old) finish chose) new same

  pub over_spent : IsOver Stands (observed fits first start (length moves + 0)) before old watcher mid Budget
  unfolding run_from
  over_spent = over-none Budget 0 refl old refl

  -- ---- a move
  module _ (now : MachineState) (kept : KeepsThreads old.state now) (turn : CurrentTurn) (opens : Bool)
      (chose : chosen guest (at_of old) ≡ chosen_of now turn (choice.Moves opens)) (way : IsUnderWay now turn) where
    run-by_status : (n : ℕ) → run_from guest (suc n) (at_of old) ≡ rest_by now turn opens n (given_of now turn.tid).turn_status
    run-by_status n =
        run-moves guest n (at_of old) opens (position now turn) chose
        ∙ ap (λ t. by_turn_status (run_from guest n) (move_of opens t (given_of now t)) (position now turn) (given_of now t).state (given_of now t).turn_status) (sym way.last)

    -- the move is the next one that is observed
    next-move : (n : ℕ) → (later : List Move) × (moves ++ made_of now turn opens ∷ later ≡ (observed fits first start (length moves + suc n)).moves)
    next-move n =
        let run = rest-head now turn opens n (given_of now turn.tid).turn_status in
        let kept = observed_run-head fits closed (past_by first moves) (made_of now turn opens) run.0 in (
          kept.0,
          sym (ap (λ (p : ObservedRun). p.moves) (whole (suc n))
              ∙ ap (λ r. moves ++ (observed_run fits (past_by first moves) r).moves) (run-by_status n ∙ run.1)
              ∙ ap (λ ms. moves ++ ms) kept.1),
        )

    -- the put of its bytes fails
    stops_at_put : (channel : Channel) (after : Sinks) → FailsOn channel (given_of now turn.tid).out mid after →
        (n : ℕ) → StopsAtPut channel (observed fits first start (length moves + suc n)).moves before after
    stops_at_put channel after failed n = record {
      earlier = moves;
      move = made_of now turn opens;
      later = (next-move n).0;
      are = (next-move n).1;
      failed = subst (λ s. FailsOn channel (given_of now turn.tid).out s after) put failed;
    }

    sent-now : (after : Sinks) → after ≡ with_sent (given_of now turn.tid).out mid → after ≡ with_output (moves ++ made_of now turn opens ∷ []) before
    sent-now after sent =
        sent ∙ ap (with_sent (given_of now turn.tid).out) put ∙ sym (output-last moves (made_of now turn opens) before)

    -- it is given up after its bytes were put
    gives_up_put : (after : Sinks) → after ≡ with_sent (given_of now turn.tid).out mid →
        (n : ℕ) → IsGivenUp (observed fits first start (length moves + suc n)).moves before after
    gives_up_put after sent n = record {
      earlier = moves ++ made_of now turn opens ∷ [];
      later = (next-move n).0;
      are = append_assoc moves (made_of now turn opens ∷ []) (next-move n).0 ∙ (next-move n).1;
      output = sent-now after sent;
    }

    -- the step fails
    pub step_failed : (new : Standing) (watched : W) (after : Sinks) (e : RunError) → StepEnds Stands fits (given_of now turn.tid) watcher mid new.state watched after (Err e) →
        Advances Stands fits first start moves before new watched after (Err e)
    step_failed new watched after (CannotPut channel) failed = stops_at_put channel after failed
    step_failed new watched after Memory (inl same) = λ n. subst (IsGivenUp (observed fits first start (length moves + suc n)).moves before) (sym same) (gives_up n)
    step_failed new watched after Memory (inr sent) = gives_up_put after sent

    -- ---- the move is made
    module _ (watched : W) (new : Standing) (after : Sinks) (status : TurnStatus)
        (is : IsStepped Stands fits (given_of now turn.tid) watcher watched mid new.state after status)
        (takes : (m : Move) (rest : List Move) → m.opens ≡ opens → m.tid ≡ turn.tid → recorded old.recorder (m ∷ rest) ≡ recorded new.recorder rest) where
      turns-now : (rest : List Move) → recorded new.recorder rest ≡ recording ((moves ++ made_of now turn opens ∷ []) ++ rest)
      turns-now rest =
          sym (takes (made_of now turn opens) rest refl refl) ∙ goes.turns (made_of now turn opens ∷ rest)
          ∙ ap recording (sym (append_assoc moves (made_of now turn opens ∷ []) rest))

      seen : Stands watched (cut fits (past_after (past_by first moves) (given_of now turn.tid).events))
          × (status ≡ cond (fits (past_after (past_by first moves) (given_of now turn.tid).events)) (given_of now turn.tid).turn_status (Ends Deep))
      seen = is.observed (past_by first moves) goes.stands goes.fitting

      -- the run ends by the move
      ends-so : (finish : Finish) (n : ℕ) (b : Bool) → fits (past_after (past_by first moves) (given_of now turn.tid).events) ≡ b →
          Ends finish ≡ cond b (given_of now turn.tid).turn_status (Ends Deep) →
          observed_run fits (past_by first moves) (run_from guest (suc n) (at_of old))
          ≡ record { moves = made_of now turn opens ∷ []; past = cut fits (past_after (past_by first moves) (given_of now turn.tid).events); finish = finish }
      ends-so finish n true fit e =
          ap (observed_run fits (past_by first moves)) (run-by_status n ∙ ap (rest_by now turn opens n) (sym e))
          ∙ observed_run-one fits closed (past_by first moves) (made_of now turn opens) finish fit
      ends-so finish n false not_fits e =
          let run = rest-head now turn opens n (given_of now turn.tid).turn_status in
          let same : Deep ≡ finish = cc in
          ap (observed_run fits (past_by first moves)) (run-by_status n ∙ run.1)
          ∙ observed_run-deep fits closed (past_by first moves) (made_of now turn opens) run.0 not_fits
          ∙ ap (λ f. let p : ObservedRun = record { moves = made_of now turn opens ∷ []; past = cut fits (past_after (past_by first moves) (given_of now turn.tid).events); finish = f } in p) same

      pub over_moved : (finish : Finish) → status ≡ Ends finish → (n : ℕ) → IsOver Stands (observed fits first start (length moves + suc n)) before new watched after finish
      over_moved finish e n =
          let next = past_after (past_by first moves) (given_of now turn.tid).events in
          let p : ObservedRun = record { moves = moves ++ made_of now turn opens ∷ []; past = cut fits next; finish = finish } in
          let ends : observed fits first start (length moves + suc n) ≡ p = whole (suc n) ∙ ap (with_first moves) (ends-so finish n (fits next) refl (sym e ∙ seen.1)) in
          subst (λ q. IsOver Stands q before new watched after finish) (sym ends) (record {
            past = seen.0;
            output = sent-now after is.output;
            turns = turns-now [] ∙ ap recording (append-nil (moves ++ made_of now turn opens ∷ []));
            finish_is = refl;
          })

      -- ---- the run goes on
      fits-on : (b : Bool) (status' : TurnStatus) → status ≡ cond b status' (Ends Deep) → (status ≡ Ends Deep → ⊥) → (b ≡ true) × (status ≡ status')
      fits-on true status' e on = (refl, e)
      fits-on false status' e on = absurd (on e)

      fitting-now : (status ≡ Ends Deep → ⊥) →
          (fits (past_after (past_by first moves) (given_of now turn.tid).events) ≡ true) × (status ≡ (given_of now turn.tid).turn_status)
      fitting-now on = fits-on (fits (past_after (past_by first moves) (given_of now turn.tid).events)) (given_of now turn.tid).turn_status seen.1 on

      leads-on : (k : ℕ) → ((n : ℕ) → run_from guest (suc n) (at_of old) ≡ with_move (made_of now turn opens) (run_from guest n (position_after (position now turn) (given_of now turn.tid).state k))) →
          new.turn.scheduler ≡ turn.scheduler → new.turn.left ≡ k → Leads start (moves ++ made_of now turn opens ∷ []) (at_of new)
      leads-on k rest turns left n =
          let longer : length (moves ++ made_of now turn opens ∷ []) + n ≡ length moves + suc n = omega (arith, length-append moves (made_of now turn opens ∷ [])) in
          let there = position_after (position now turn) (given_of now turn.tid).state k in
          let of : List Move → Finish → WrittenRun = λ ms finish. record { moves = ms; finish = finish } in
          ap (λ l. run_from guest l start) longer ∙ goes.leads (suc n) ∙ ap (with_moves moves) (rest n)
          ∙ ap (λ ms. of ms (run_from guest n there).finish) (sym (append_assoc moves (made_of now turn opens ∷ []) (run_from guest n there).moves))
          ∙ ap (λ at. with_moves (moves ++ made_of now turn opens ∷ []) (run_from guest n at)) (same k turns left)
        where
          same : (k : ℕ) → new.turn.scheduler ≡ turn.scheduler → new.turn.left ≡ k →
              position_after (position now turn) (given_of now turn.tid).state k ≡ at_of new
          same k turns left =
              ap (λ (m : MachineState). let q : Position MachineState = record { state = m; turns = turn.scheduler; left = k } in q) (sym is.state)
              ∙ ap (λ l. let q : Position MachineState = record { state = new.state; turns = turn.scheduler; left = l } in q) (sym left)
              ∙ ap (λ s. let q : Position MachineState = record { state = new.state; turns = s; left = new.turn.left } in q) (sym turns)

      module _ (room : length moves < RUN_STEPS) (made_one : new.recorder.made ≤ old.recorder.made + 1) where
        goes-on : fits (past_after (past_by first moves) (given_of now turn.tid).events) ≡ true → Leads start (moves ++ made_of now turn opens ∷ []) (at_of new) →
            (0 < new.turn.left → IsUnderWay new.state new.turn) → (0 < new.turn.left → 0 < new.recorder.made) →
            going.GoesOn Stands fits first start moves before new watched after
        goes-on fit leads ways began =
            let next = past_after (past_by first moves) (given_of now turn.tid).events in
            let there : next ≡ past_by first (moves ++ made_of now turn opens ∷ []) = sym (past-last first moves (made_of now turn opens)) in
            let past = past_step now turn.tid (past_by first moves) (past_kept old.state now (past_by first moves) kept goes.past) way.able (omega (arith, goes.few_steps, room)) in
            let count = length-append moves (made_of now turn opens ∷ []) in
            record {
              move = made_of now turn opens;
              going = record {
                leads = leads;
                stands = subst (Stands watched) (cut-fits fits next fit ∙ there) seen.0;
                fitting = ap fits (sym there) ∙ fit;
                past = subst (λ p. IsPastOf p new.state) there (subst (IsPastOf next) (sym is.state) past);
                few_steps = subst (λ p. steps p ≤ length (moves ++ made_of now turn opens ∷ [])) there (omega (arith, step_adds now turn.tid (past_by first moves), goes.few_steps, count));
                turns = turns-now;
                made = omega (arith, made_one, goes.made, count);
                way = ways;
                began = began;
              };
              output = sent-now after is.output;
            }

        pub goes_over : status ≡ TurnOver → new.turn.scheduler ≡ turn.scheduler → new.turn.left ≡ 0 → going.GoesOn Stands fits first start moves before new watched after
        goes_over e turns over =
            let on : status ≡ Ends Deep → ⊥ = λ bad. absurd (let no_end : TurnOver ≡ Ends Deep = sym e ∙ bad in cc) in
            let fit = fitting-now on in
            goes-on fit.0
            (leads-on 0 (λ n. run-by_status n ∙ ap (rest_by now turn opens n) (sym fit.1 ∙ e)) turns over)
            (λ some. absurd (omega (arith, some, over)))
            (λ some. absurd (omega (arith, some, over)))

        pred-minus : (n : ℕ) → pred n ≡ n - 1
        pred-minus zero = omega arith
        pred-minus (suc n) = omega arith

        pub goes_turn : status ≡ GoesOn → new.turn.scheduler ≡ turn.scheduler → new.turn.tid ≡ turn.tid → new.turn.left ≡ turn.left - 1 → 0 < new.recorder.made →
            going.GoesOn Stands fits first start moves before new watched after
        goes_turn e turns tid less began =
            let on : status ≡ Ends Deep → ⊥ = λ bad. absurd (let no_end : GoesOn ≡ Ends Deep = sym e ∙ bad in cc) in
            let fit = fitting-now on in
            let able : can_run (step now turn.tid).machine turn.tid ≡ true = step_able now turn.tid way.able (goes_went turn.tid (step now turn.tid).outcome (sym fit.1 ∙ e)) in
            goes-on fit.0
            (leads-on (pred turn.left) (λ n. run-by_status n ∙ ap (rest_by now turn opens n) (sym fit.1 ∙ e)) turns (less ∙ sym (pred-minus turn.left)))
            (λ some. record {
              last = tid ∙ way.last ∙ ap (λ (k : SchedulerState). k.last) (sym turns);
              able = ap (can_run new.state) tid ∙ ap (λ (k : MachineState). can_run k turn.tid) is.state ∙ able;
            })
            (λ some. began)
