-- How many contexts there are.
use Rattle.std.proofs.Common.{ℕ, zero, suc, List}
use Rattle.trace_model.specs.declared.event_kinds.Event.{Event}
use Rattle.trace_model.specs.Observing.{with_steps}
use Rattle.run_profile.specs.Contexts.{IsPastNumbers}

-- steps begin no context
pub still_many : (t n : ℕ) (past : List Event) → IsPastNumbers past → IsPastNumbers (with_steps t n past)
still_many t zero past many = many
still_many t (suc n) past many = still_many t n past many
