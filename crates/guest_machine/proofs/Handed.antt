-- Events handed to an observer, one by one.
use Rattle.std.proofs.Common.{◌≡◌, ℕ, zero, suc, Bool, false, List, [], ◌∷◌, ◌++◌, reverse, refl, ap, sym, subst, ◌∙◌}
use Rattle.trace_model.specs.declared.event_kinds.Event.{Event}
use Rattle.trace_model.specs.declared.observer.Observed.{Observed}
use Rattle.trace_model.specs.declared.observer.Observed.TheVariants.{Taken, Refused}
use Rattle.trace_model.specs.declared.event_kinds.Event.TheVariants.{Step}
use Rattle.trace_model.specs.Cut.{IsPrefixClosed, cut, past_after}
use Rattle.trace_model.specs.Observing.{MayStepBy, MayTakeAfter, MayTakeAll, Observes, ObservesAfter, ObservesAll, StepsBy, StepsFit, is_taken, with_steps}
use Rattle.trace_model.specs.WellFormed.{IsWellFormed}
use Rattle.trace_model.proofs.Cut.{cut-fits, cut-here, fits-earlier, past_after-append, past_after-cons}
use Rattle.trace_model.proofs.Feeding.{fits_on, formed-earlier}
use Rattle.guest_machine.specs.Told.{steps_of}

-- an event that is refused, and so those behind it
pub observes_none : {W : Type 0} (Stands : W → List Event → Type 0) (fits : List Event → Bool) (old : W) (e : Event) (events : List Event) (mid : W) →
    IsPrefixClosed fits → Observes Stands fits e old mid Refused → ObservesAll Stands fits (e ∷ events) old mid Refused
observes_none Stands fits old e events mid closed first = λ past stood fitting.
    let now = first past stood in
    subst (λ (p : List Event). Stands mid (cut fits p) × (fits p ≡ false)) (sym (past_after-cons past e events))
    (subst (Stands mid) (sym (cut-here fits closed past (reverse events) e fitting now.1)) now.0, fits-earlier fits closed (e ∷ past) (reverse events) now.1)

-- no event
pub observes_nothing : {W : Type 0} (Stands : W → List Event → Type 0) (fits : List Event → Bool) (old : W) → ObservesAll Stands fits [] old old Taken
observes_nothing Stands fits old = λ past stood fitting. (subst (Stands old) (sym (cut-fits fits past fitting)) stood, fitting)

-- ---- steps in a row, and then other events
pub past_of_steps : (tid n : ℕ) (past : List Event) → past_after past (steps_of tid n) ≡ with_steps tid n past
past_of_steps tid zero past = refl
past_of_steps tid (suc n) past =
    past_after-append past (steps_of tid n) (Step tid ∷ []) ∙ ap (λ (p : List Event). Step tid ∷ p) (past_of_steps tid n past)

pub past_of_all : (tid n : ℕ) (past events : List Event) → past_after past (steps_of tid n ++ events) ≡ past_after (with_steps tid n past) events
past_of_all tid n past events =
    past_after-append past (steps_of tid n) events ∙ ap (λ (p : List Event). past_after p events) (past_of_steps tid n past)

module _ {W : Type 0} (Stands : W → List Event → Type 0) (fits : List Event → Bool) (fit : StepsFit fits) (tid n : ℕ) (events : List Event) (old : W) where
  pub may_step : MayTakeAll Stands fits old (steps_of tid n ++ events) → MayStepBy Stands fits old tid n
  may_step may = record {
    past = may.past;
    now = may.now;
    fitting = may.fitting;
    formed = formed-earlier (reverse events) (with_steps tid n may.past) (subst IsWellFormed (past_of_all tid n may.past events) may.formed);
  }

  module _ (mid : W) (steps : StepsBy Stands fits tid n old mid) where
    pub may_go_on : MayTakeAll Stands fits old (steps_of tid n ++ events) → MayTakeAll Stands fits mid events
    may_go_on may = record {
      past = with_steps tid n may.past;
      now = steps may.past may.now may.fitting;
      fitting = fits_on fits fit tid n may.past may.fitting;
      formed = subst IsWellFormed (past_of_all tid n may.past events) may.formed;
    }

    pub observes_on : (new : W) (observed : Observed) → ObservesAll Stands fits events mid new observed → ObservesAll Stands fits (steps_of tid n ++ events) old new observed
    observes_on new observed rest = λ past stood fitting.
        let now = rest (with_steps tid n past) (steps past stood fitting) (fits_on fits fit tid n past fitting) in
        let same = sym (past_of_all tid n past events) in
        (subst (λ (p : List Event). Stands new (cut fits p)) same now.0, subst (λ (p : List Event). fits p ≡ is_taken observed) same now.1)

-- ---- steps in a row, and one event after them
module _ {W : Type 0} (Stands : W → List Event → Type 0) (fits : List Event → Bool) (tid n : ℕ) (e : Event) (old : W) where
  pub may_after : MayTakeAll Stands fits old (steps_of tid n ++ e ∷ []) → MayTakeAfter Stands fits old tid n e
  may_after may = record {
    past = may.past;
    now = may.now;
    fitting = may.fitting;
    formed = subst IsWellFormed (past_of_all tid n may.past (e ∷ [])) may.formed;
  }

  observes_to : (new : W) (past whole : List Event) → past_after past (steps_of tid n ++ e ∷ []) ≡ e ∷ with_steps tid n past → cut fits (e ∷ with_steps tid n past) ≡ whole →
      Stands new whole → Stands new (cut fits (past_after past (steps_of tid n ++ e ∷ [])))
  observes_to new past whole all cuts stands = subst (Stands new) (sym (ap (cut fits) all ∙ cuts)) stands

  pub observes_behind : IsPrefixClosed fits → StepsFit fits → (new : W) (observed : Observed) → ObservesAfter Stands fits tid n e old new observed →
      ObservesAll Stands fits (steps_of tid n ++ e ∷ []) old new observed
  observes_behind closed fit new Taken observes = λ past stood fitting.
      let now = observes past stood fitting in
      let all = past_of_all tid n past (e ∷ []) in
      (observes_to new past (e ∷ with_steps tid n past) all (cut-fits fits (e ∷ with_steps tid n past) now.1) now.0, ap fits all ∙ now.1)
  observes_behind closed fit new Refused observes = λ past stood fitting.
      let now = observes past stood fitting in
      let all = past_of_all tid n past (e ∷ []) in (
        observes_to new past (with_steps tid n past) all (cut-here fits closed (with_steps tid n past) [] e (fits_on fits fit tid n past fitting) now.1) now.0,
        ap fits all ∙ now.1,
      )
