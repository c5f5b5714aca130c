-- Events handed to an observer, one after the other.
use Rattle.std.proofs.Common.{◌≡◌, ℕ, zero, suc, ◌+◌, ◌<◌, ◌≤◌, arith, inl, inr, Bool, true, false, List, [], ◌∷◌, ◌++◌, length, get_or, take, drop, reverse, sym, ap, subst, ◌∙◌}
use Rattle.std.proofs.lemmas.Bool.{cases_eq}
use Rattle.std.proofs.lemmas.List.{take_all, take-append-drop, take_more}
use Rattle.trace_model.specs.declared.event_kinds.Event.{Event}
use Rattle.trace_model.specs.Cut.{IsPrefixClosed, cut, past_after}
use Rattle.trace_model.specs.declared.observer.Observed.{Observed}
use Rattle.trace_model.specs.declared.observer.Observed.TheVariants.{Taken, Refused}
use Rattle.trace_model.specs.Observing.{MayStepBy, MayTake, MayTakeAfter, Observes, ObservesAfter, StepsBy, StepsFit, with_steps}
use Rattle.trace_model.specs.WellFormed.{IsWellFormed}
use Rattle.trace_model.proofs.Cut.{cut-here, fits-earlier, past_after-append}

-- a trace whose later events may come is well formed before them
pub formed-earlier : (newer past : List Event) → IsWellFormed (newer ++ past) → IsWellFormed past
formed-earlier [] past formed = formed
formed-earlier (e ∷ newer) past formed = formed-earlier newer past formed.2

module _ (past events : List Event) (i : ℕ) (e : Event) (low : i < length events) (here : e ≡ get_or events i e) where
  -- one more of the events
  pub after-next : past_after past (take (i + 1) events) ≡ e ∷ past_after past (take i events)
  after-next =
      ap (past_after past) (take_more events i e low ∙ ap (λ x. take i events ++ x ∷ []) (sym here)) ∙ past_after-append past (take i events) (e ∷ [])

  -- and all of them
  after-all : past_after past events ≡ reverse (drop (i + 1) events) ++ e ∷ past_after past (take i events)
  after-all =
      ap (past_after past) (sym (take-append-drop (i + 1) events)) ∙ past_after-append past (take (i + 1) events) (drop (i + 1) events)
      ∙ ap (λ p. reverse (drop (i + 1) events) ++ p) after-next

  pub formed-at : IsWellFormed (past_after past events) → IsWellFormed (e ∷ past_after past (take i events))
  formed-at formed = formed-earlier (reverse (drop (i + 1) events)) (e ∷ past_after past (take i events)) (subst IsWellFormed after-all formed)

  module _ (fits : List Event → Bool) (closed : IsPrefixClosed fits) (not_fits : fits (e ∷ past_after past (take i events)) ≡ false) where
    pub cut-at : fits (past_after past (take i events)) ≡ true → cut fits (past_after past events) ≡ past_after past (take i events)
    cut-at is = ap (cut fits) after-all ∙ cut-here fits closed (past_after past (take i events)) (reverse (drop (i + 1) events)) e is not_fits

    pub fits-not : fits (past_after past events) ≡ false
    fits-not = ap fits after-all ∙ fits-earlier fits closed (e ∷ past_after past (take i events)) (reverse (drop (i + 1) events)) not_fits

pub taken-all : (past events : List Event) (i : ℕ) → length events ≤ i → past_after past (take i events) ≡ past_after past events
taken-all past events i all = ap (past_after past) (take_all i events all)

-- ---- steps of a thread in a row
pub fits_on : (fits : List Event → Bool) → StepsFit fits → (tid n : ℕ) (past : List Event) → fits past ≡ true → fits (with_steps tid n past) ≡ true
fits_on fits fit tid zero past is = is
fits_on fits fit tid (suc n) past is = fit tid (with_steps tid n past) (fits_on fits fit tid n past is)

pub steps_formed : (tid n k : ℕ) (past : List Event) → k < n → IsWellFormed (with_steps tid n past) → IsWellFormed (with_steps tid (suc k) past)
steps_formed tid zero k past low formed = absurd (omega (arith, low))
steps_formed tid (suc n) k past low formed = elim (cases_eq k n) [
  | inl last ↦ subst (λ j. IsWellFormed (with_steps tid (suc j) past)) (sym last) formed
  | inr before ↦ steps_formed tid n k past (omega (arith, low, before)) formed.2
]

-- ---- and an event after them
module _ {O : Type 0} (Stands : O → List Event → Type 0) (fits : List Event → Bool) (tid n : ℕ) (e : Event) (old : O) where
  pub may_step_before : MayTakeAfter Stands fits old tid n e → MayStepBy Stands fits old tid n
  may_step_before may = record { past = may.past; now = may.now; fitting = may.fitting; formed = may.formed.2 }

  module _ (mid : O) (steps : StepsBy Stands fits tid n old mid) where
    pub may_take_behind : MayTakeAfter Stands fits old tid n e → MayTake Stands mid e
    may_take_behind may = record { past = with_steps tid n may.past; now = steps may.past may.now may.fitting; formed = may.formed }

    pub observes_after : (new : O) (observed : Observed) → Observes Stands fits e mid new observed → ObservesAfter Stands fits tid n e old new observed
    observes_after new Taken observes = λ past stood fitting. observes (with_steps tid n past) (steps past stood fitting)
    observes_after new Refused observes = λ past stood fitting. observes (with_steps tid n past) (steps past stood fitting)
