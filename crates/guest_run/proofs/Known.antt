-- Moves of a turn whose instructions are known.
use Rattle.std.proofs.Common.{◌≡◌, ℕ, zero, suc, ◌+◌, ◌-◌, ◌<◌, ◌≤◌, Bool, true, false, cond, List, ◌∷◌, ◌++◌, reverse, Option, Some, None, Ok, Err, refl, sym, ap, subst, ◌∙◌, arith}
use Rattle.std.proofs.lemmas.Bool.{true≢false}
use Rattle.guest_words.specs.declared.endings.Finish.{Finish}
use Rattle.guest_words.specs.declared.endings.Finish.TheVariants.{Deep}
use Rattle.guest_words.specs.declared.limits.TheConstants.{RUN_STEPS}
use Rattle.thread_sched.specs.declared.entry.Entry.{Entry}
use Rattle.trace_model.specs.declared.event_kinds.Event.{Event}
use Rattle.trace_model.specs.declared.observer.Observed.TheVariants.{Refused, Taken}
use Rattle.trace_model.specs.Cut.{IsPrefixClosed, cut, past_after}
use Rattle.trace_model.specs.Observing.{MayTakeAll}
use Rattle.trace_model.specs.WellFormed.{IsWellFormed}
use Rattle.trace_model.proofs.Cut.{cut-fits, fits-earlier, past_after-append}
use Rattle.guest_machine.specs.Laws.{KeepsThreads}
use Rattle.guest_machine.specs.Machine.{MachineState}
use Rattle.guest_machine.specs.Running.{AllGoOn, GoesOn as StepGoesOn, MayTakeSteps, ObservesSteps, after_steps, events_of_steps}
use Rattle.guest_machine.specs.Step.{step}
use Rattle.guest_run.specs.declared.run_error.RunError.TheVariants.{Memory}
use Rattle.guest_run.specs.declared.turn_status.TurnStatus.{TurnStatus}
use Rattle.guest_run.specs.declared.turn_status.TurnStatus.TheVariants.{Ends, GoesOn}
use Rattle.guest_run.specs.declared.turns.Choice.TheVariants.{Moves}
use Rattle.guest_run.specs.declared.turns.CurrentTurn.{CurrentTurn}
use Rattle.guest_run.specs.declared.turns.Recorder.{Recorder}
use Rattle.guest_run.specs.Private.CurrentTurn.{chosen_of, position, recorded, with_present}
use Rattle.guest_run.specs.Private.Going.{Advances, IsOver, MakesAMove, MayAdvance, Remains, Standing, moved, observed, past_by}
use Rattle.guest_run.specs.Machine.{guest, turn_status_of}
use Rattle.guest_run.specs.Output.{Sinks}
use Rattle.guest_run.specs.Private.Steps.{with_sent, StepEnds}
use Rattle.guest_run.specs.Run.{Move, Position, chosen, chosen_by, current, recording}
use Rattle.guest_run.specs.RunEnds.{RunEnds}
use Rattle.guest_run.proofs.Advances.{gives_up, goes_turn, may_take, over_moved}
use Rattle.guest_run.proofs.Ends.{advances_by, ends_failed, may_advance, next_by, over_by}
use Rattle.guest_run.proofs.Output.{output-none}

-- The turn goes on, where it has moves left.
turn_goes_on : (m : MachineState) (turn : CurrentTurn) → 0 < turn.left → chosen guest (position m turn) ≡ chosen_of m turn (Moves false)
unfolding chosen
turn_goes_on m turn some = by turn.left refl some
  where
    by : (n : ℕ) → turn.left ≡ n → 0 < n → chosen_by guest (position m turn) n ≡ chosen_of m turn (Moves false)
    by zero is some = absurd (omega (arith, some))
    by (suc n) is some = refl

stays : (m : MachineState) → KeepsThreads m m
stays m = record { memory = refl; held = refl; threads = refl; last = refl; program_break = refl; numbers = refl }

module _ {W : Type 0} (Stands : W → List Event → Type 0) (fits : List Event → Bool) (old : Standing) (watcher : W) (left : 0 < old.turn.left) where
  -- the events of the step may come
  known_next : MayAdvance Stands fits old watcher →
      MayTakeAll Stands fits watcher (guest.step old.state old.turn.tid).events
  known_next may =
      may_take Stands fits may.first may.start may.moves old watcher may.going may.room old.state (stays old.state)
      old.turn.tid (may.going.way left).able

  module _ (closed : IsPrefixClosed fits) (new : Standing) (watched : W) where
    known_goes_on : ((now : Sinks) → StepEnds Stands fits (guest.step old.state old.turn.tid) watcher now new.state watched now (Ok GoesOn)) →
        ((m : Move) (rest : List Move) → m.opens ≡ false → recorded old.recorder (m ∷ rest) ≡ recorded new.recorder rest) →
        new.recorder.made ≡ old.recorder.made + 1 → new.turn.scheduler ≡ old.turn.scheduler → new.turn.tid ≡ old.turn.tid →
        new.turn.left ≡ old.turn.left - 1 → (now : Sinks) → MakesAMove Stands fits old watcher now new watched now (Ok None)
    known_goes_on ends takes one turns tid less now first start moves before going room put =
        goes_turn Stands fits closed first start moves before old watcher going now put old.state (stays old.state) old.turn false
        (turn_goes_on old.state old.turn left) (going.way left) watched new now GoesOn (ends now) (λ m rest opens of. takes m rest opens)
        room (omega (arith, one)) refl turns tid less (omega (arith, one))

    known_ends : ((now : Sinks) → StepEnds Stands fits (guest.step old.state old.turn.tid) watcher now new.state watched now (Ok (Ends Deep))) →
        ((m : Move) (rest : List Move) → m.opens ≡ false → recorded old.recorder (m ∷ rest) ≡ recorded new.recorder rest) →
        (now : Sinks) → MakesAMove Stands fits old watcher now new watched now (Ok (Some Deep))
    known_ends ends takes now first start moves before going room put =
        over_moved Stands fits closed first start moves before old watcher going now put old.state (stays old.state) old.turn false
        (turn_goes_on old.state old.turn left) (going.way left) watched new now (Ends Deep) (ends now) (λ m rest opens of. takes m rest opens) Deep refl

-- ---- one more move of the turn, as its counts say it
present_more : (tid made more : ℕ) (later : List Entry) → 0 < made → with_present tid made (suc more) later ≡ with_present tid (made + 1) more later
present_more tid zero more later some = absurd (omega (arith, some))
present_more tid (suc made) more later some =
    let entry : ℕ → Entry = λ n. record { tid = tid; most = n } in
    let same : suc (suc made) ≡ suc made + 1 = omega arith in
    ap (λ n. entry n ∷ later) (let e : suc made + suc more ≡ suc (suc made) + more = omega arith in e)
    ∙ ap (λ n. with_present tid n more later) same

recorded_more : (k : Recorder) (m : Move) (rest : List Move) → 0 < k.made → m.opens ≡ false →
    recorded k (m ∷ rest) ≡ recorded (record k { made = k.made + 1 }) rest
recorded_more k m rest some on = by m.opens on
  where
    by : (b : Bool) → b ≡ false →
        k.turns ++ with_present k.tid k.made (cond b 0 (suc (current rest))) (cond b (record { tid = m.tid; most = suc (current rest) } ∷ recording rest) (recording rest))
        ≡ recorded (record k { made = k.made + 1 }) rest
    by true is = absurd (cc)
    by false is = ap (λ entries. k.turns ++ entries) (present_more k.tid k.made (current rest) (recording rest) some)

-- ---- a number of moves of the turn, as the past alone shows them
-- a past, in place of an observer
abbrev Same : List Event → List Event → Type 0
Same past other = past ≡ other

module _ (fits : List Event → Bool) (closed : IsPrefixClosed fits) (first : List Event) (start : Position MachineState) (before : Sinks)
    (made most : ℕ) (s : Standing) (now : Sinks) (past : List Event) (begun : Remains Same fits first start before made s past now)
    (left : most ≤ s.turn.left) (room : made + most ≤ RUN_STEPS) where
  abbrev events : ℕ → List Event
  events n = events_of_steps s.state s.turn.tid n

  abbrev next : ℕ → List Event
  next n = past_after past (events n)

  next-suc : (n : ℕ) → past_after (next n) (step (after_steps s.state s.turn.tid n) s.turn.tid).events ≡ next (suc n)
  next-suc n = sym (past_after-append past (events n) (step (after_steps s.state s.turn.tid n) s.turn.tid).events)

  -- what fits did so a step earlier
  fits-before : (n : ℕ) → fits (next (suc n)) ≡ true → fits (next n) ≡ true
  fits-before n is = by (fits (next n)) refl
    where
      by : (b : Bool) → fits (next n) ≡ b → b ≡ true
      by true it = refl
      by false it =
          absurd (true≢false (sym is ∙ ap fits (sym (next-suc n)) ∙ fits-earlier fits closed (next n) (reverse (step (after_steps s.state s.turn.tid n) s.turn.tid).events) it))

  module _ (n : ℕ) (goes : Remains Same fits first start before (made + n) (moved s n) (next n) now) (less : n < most) where
    some : 0 < (moved s n).turn.left
    some = omega (arith, less, left)

    few : made + n < RUN_STEPS
    few = omega (arith, less, room)

    next_formed : MayTakeAll Same fits (next n) (guest.step (after_steps s.state s.turn.tid n) s.turn.tid).events
    next_formed = known_next Same fits (moved s n) (next n) some (may_advance Same fits first start before (made + n) (moved s n) (next n) now goes few)

    takes : (m : Move) (rest : List Move) → m.opens ≡ false → recorded (moved s n).recorder (m ∷ rest) ≡ recorded (moved s (suc n)).recorder rest
    takes m rest opens =
        recorded_more (moved s n).recorder m rest (goes.going.began some) opens
        ∙ ap (λ k. recorded (record s.recorder { made = k }) rest) (let e : s.recorder.made + n + 1 ≡ s.recorder.made + suc n = omega arith in e)

    stepped : (status : TurnStatus) → (step (after_steps s.state s.turn.tid n) s.turn.tid).out ≡ None → (watched : List Event) →
        ((fits (next n) ≡ true) → (watched ≡ cut fits (next (suc n))) × (status ≡ cond (fits (next (suc n))) (guest.step (after_steps s.state s.turn.tid n) s.turn.tid).turn_status (Ends Deep))) →
        (put : Sinks) → StepEnds Same fits (guest.step (after_steps s.state s.turn.tid n) s.turn.tid) (next n) put (moved s (suc n)).state watched put (Ok status)
    stepped status quiet watched seen put = record {
      state = refl;
      output = sym (ap (λ out. with_sent out put) quiet ∙ output-none put);
      observed = λ p is fit.
          let of = guest.step (after_steps s.state s.turn.tid n) s.turn.tid in
          let there : past_after p of.events ≡ next (suc n) = ap (λ q. past_after q of.events) (sym is) ∙ next-suc n in
          subst (λ q. (watched ≡ cut fits q) × (status ≡ cond (fits q) of.turn_status (Ends Deep))) (sym there) (seen (ap fits is ∙ fit));
    }

    advances : (end : Option Finish) (watched : List Event) → ((put : Sinks) → MakesAMove Same fits (moved s n) (next n) put (moved s (suc n)) watched put (Ok end)) →
        Advances Same fits first start goes.moves before (moved s (suc n)) watched now (Ok end)
    advances end watched makes =
        advances_by Same fits first start before (made + n) (moved s n) (next n) now goes fits refl few (moved s (suc n)) watched now (Ok end) (makes now)

    goes_on : StepGoesOn (step (after_steps s.state s.turn.tid n) s.turn.tid) → fits (next (suc n)) ≡ true →
        Remains Same fits first start before (made + suc n) (moved s (suc n)) (next (suc n)) now
    goes_on on fit =
        let of = guest.step (after_steps s.state s.turn.tid n) s.turn.tid in
        let status : GoesOn ≡ cond (fits (next (suc n))) of.turn_status (Ends Deep) = sym (ap (λ b. cond b of.turn_status (Ends Deep)) fit ∙ ap (turn_status_of s.turn.tid) on.outcome) in
        let ends = stepped GoesOn on.out (next (suc n)) (λ _. (sym (cut-fits fits (next (suc n)) fit), status)) in
        subst (λ k. Remains Same fits first start before k (moved s (suc n)) (next (suc n)) now) (let e : made + n + 1 ≡ made + suc n = omega arith in e)
        (next_by Same fits first start before (made + n) (moved s n) (next n) now goes (moved s (suc n)) (next (suc n)) now None refl
        (advances None (next (suc n)) (known_goes_on Same fits (moved s n) (next n) some closed (moved s (suc n)) (next (suc n)) ends takes (omega arith) refl refl (omega arith))))

    last_refused : (step (after_steps s.state s.turn.tid n) s.turn.tid).out ≡ None → fits (next (suc n)) ≡ false → (budget : ℕ) → made + most ≤ budget →
        IsOver Same (observed fits first start budget) before (moved s (suc n)) (cut fits (next (suc n))) now Deep
    last_refused quiet not_fits budget within =
        let of = guest.step (after_steps s.state s.turn.tid n) s.turn.tid in
        let watched = cut fits (next (suc n)) in
        let ends = stepped (Ends Deep) quiet watched (λ _. (refl, sym (ap (λ b. cond b of.turn_status (Ends Deep)) not_fits))) in
        over_by Same fits first start before (made + n) (moved s n) (next n) now goes budget (omega (arith, less, within)) (moved s (suc n)) watched now Deep
        (advances (Some Deep) watched (known_ends Same fits (moved s n) (next n) some closed (moved s (suc n)) watched ends takes))

  abbrev counted : ℕ → ℕ → Standing
  counted l k = record { state = s.state; turn = record s.turn { left = l }; recorder = record s.recorder { made = k } }

  -- the run remains after that number of moves
  going : (n : ℕ) → n ≤ most → AllGoOn s.state s.turn.tid n → fits (next n) ≡ true → Remains Same fits first start before (made + n) (moved s n) (next n) now
  going zero low all fit =
      subst (λ k. Remains Same fits first start before k (moved s 0) past now) (let e : made ≡ made + 0 = omega arith in e)
      (subst (λ l. Remains Same fits first start before made (counted l (s.recorder.made + 0)) past now) (let e : s.turn.left ≡ s.turn.left - 0 = omega arith in e)
      (subst (λ k. Remains Same fits first start before made (counted s.turn.left k) past now) (let e : s.recorder.made ≡ s.recorder.made + 0 = omega arith in e) begun))
  going (suc n) low all fit =
      goes_on n (going n (omega (arith, low)) all.0 (fits-before n fit)) (omega (arith, low)) all.1 fit

  next_is_formed : (n : ℕ) → n < most → AllGoOn s.state s.turn.tid n → fits (next n) ≡ true → IsWellFormed (next (suc n))
  next_is_formed n low all fit =
      let may = next_formed n (going n (omega (arith, low)) all fit) low in
      subst IsWellFormed (ap (λ q. past_after q (step (after_steps s.state s.turn.tid n) s.turn.tid).events) (sym may.now) ∙ next-suc n) may.formed

  over_last : (n : ℕ) → suc n ≤ most → AllGoOn s.state s.turn.tid (suc n) → fits (next n) ≡ true → fits (next (suc n)) ≡ false → (budget : ℕ) → made + most ≤ budget →
      IsOver Same (observed fits first start budget) before (moved s (suc n)) (cut fits (next (suc n))) now Deep
  over_last n low all fit not_fits budget within =
      last_refused n (going n (omega (arith, low)) all.0 fit) (omega (arith, low)) all.1.out not_fits budget within

-- ---- and as an observer has them
module _ {W : Type 0} (Stands : W → List Event → Type 0) (fits : List Event → Bool) (closed : IsPrefixClosed fits) (first : List Event)
    (start : Position MachineState) (before : Sinks) (made most : ℕ) (s : Standing) (watcher : W) (now : Sinks)
    (begun : Remains Stands fits first start before made s watcher now) (left : most ≤ s.turn.left) (room : made + most ≤ RUN_STEPS) where
  abbrev past : List Event
  past = past_by first begun.moves

  as_past : Remains Same fits first start before made s past now
  as_past = record {
    moves = begun.moves;
    going = record {
      leads = begun.going.leads;
      stands = refl;
      fitting = begun.going.fitting;
      past = begun.going.past;
      few_steps = begun.going.few_steps;
      turns = begun.going.turns;
      made = begun.going.made;
      way = begun.going.way;
      began = begun.going.began;
    };
    output = begun.output;
    count_is = begun.count_is;
  }

  pub may_take_known : MayTakeSteps Stands fits watcher s.state s.turn.tid most
  may_take_known = record {
    past = past;
    now = begun.going.stands;
    fitting = begun.going.fitting;
    formed = λ n low all fit. next_is_formed fits closed first start before made most s now past as_past left room n low all fit;
  }

  pub known_given_up : (budget : ℕ) → made < budget → (watched : W) → RunEnds Stands (observed fits first start budget) before watched now (Err Memory)
  known_given_up budget low watched =
      ends_failed Stands fits first start before made s watcher now begun budget low s watched now Memory
      (gives_up Stands fits closed first start begun.moves before s watcher begun.going now begun.output)

  module _ (watched : W) (n : ℕ) (low : n ≤ most) (all : AllGoOn s.state s.turn.tid n) where
    pub known_remains : ObservesSteps Stands fits s.state s.turn.tid watcher watched n Taken → (state : MachineState) → state ≡ after_steps s.state s.turn.tid n →
        Remains Stands fits first start before (made + n) (record (moved s n) { state = state }) watched now
    known_remains observes state is =
        let seen = observes past begun.going.stands begun.going.fitting in
        let there = going fits closed first start before made most s now past as_past left room n low all seen.1 in
        subst (λ m. Remains Stands fits first start before (made + n) (record (moved s n) { state = m }) watched now) (sym is) (record {
          moves = there.moves;
          going = record {
            leads = there.going.leads;
            stands = subst (Stands watched) there.going.stands seen.0;
            fitting = there.going.fitting;
            past = there.going.past;
            few_steps = there.going.few_steps;
            turns = there.going.turns;
            made = there.going.made;
            way = there.going.way;
            began = there.going.began;
          };
          output = there.output;
          count_is = there.count_is;
        })

  pub known_over : (watched : W) (n : ℕ) → n ≤ most → AllGoOn s.state s.turn.tid n → ObservesSteps Stands fits s.state s.turn.tid watcher watched n Refused →
      (budget : ℕ) → made + most ≤ budget → (state : MachineState) →
      IsOver Stands (observed fits first start budget) before (record (moved s n) { state = state }) watched now Deep
  known_over watched zero low all observes budget within state = absurd observes
  known_over watched (suc n) low all observes budget within state =
      let seen = observes past begun.going.stands begun.going.fitting in
      let over = over_last fits closed first start before made most s now past as_past left room n low all seen.0 seen.2 budget within in
      record {
        past = subst (Stands watched) over.past seen.1;
        output = over.output;
        turns = over.turns;
        finish_is = over.finish_is;
      }
