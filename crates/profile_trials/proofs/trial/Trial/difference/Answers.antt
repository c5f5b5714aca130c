use Rattle.std.proofs.Common.{List, reverse, subst, sym}
use Rattle.trace_model.specs.declared.event_kinds.Event.{Event}
use Rattle.trace_model.specs.WellFormed.{IsLight}
use Rattle.profile_trials.specs.Trial.{TrialState, IsTrial}
use Rattle.profile_trials.proofs.Trials.{light}
use Rattle.profile_trials.proofs.trial.Trial.difference.Goals as goal

pub slow_done-requires : goal.slow_done-requires
slow_done-requires g c =
    let trial = subst (λ (t : TrialState). IsTrial g.S.Stamp.MAX t) (sym c.self.view_is) c.requires in
    subst (λ (kept : List Event). IsLight (reverse kept)) (sym c.list.ensures) (light _ _ trial.order)
