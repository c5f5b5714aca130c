-- A trial that begins, and the events that it keeps.
use Rattle.std.proofs.Common.{◌≡◌, ℕ, List, [], ◌∷◌, reverse, sym, subst, arith}
use Rattle.trace_model.specs.declared.event_kinds.Event.{Event}
use Rattle.trace_model.specs.declared.slow_profile.Done.{Done}
use Rattle.trace_model.specs.WellFormed.{IsLight}
use Rattle.trace_order.specs.Order.{OrderState, IsOrderOf}
use Rattle.shadow_core.specs.Profiling.{StandsFor}
use Rattle.shadow_core.specs.State.{State}
use Rattle.profile_trials.specs.Trial.{IsTrial}

pub begins : (most : ℕ) (o : OrderState) (s : State) (kept : List Event) (done : List Done) → IsOrderOf o [] → StandsFor most s [] → kept ≡ [] →
    IsTrial most (record { order = o; stamps = s; kept = kept; done = done })
begins most o s kept done order stamps none = record {
  order = subst (λ (kept : List Event). IsOrderOf o (reverse kept)) (sym none) order;
  stamps = subst (λ (kept : List Event). StandsFor most s (reverse kept)) (sym none) stamps;
}

pub light : (o : OrderState) (past : List Event) → IsOrderOf o past → IsLight past
light o [] h = omega arith
light o (e ∷ past) h = h.formed.1
