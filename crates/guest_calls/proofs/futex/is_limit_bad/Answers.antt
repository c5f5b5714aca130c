use Rattle.std.proofs.Common.{sym, ◌∙◌}
use Rattle.guest_calls.proofs.Passed.{asked_reach}
use Rattle.guest_calls.proofs.futex.is_limit_bad.Goals as goal

pub time_at-requires : goal.time_at-requires
time_at-requires c = record { reach = rw c.argument.ensures (asked_reach _ _ c.requires (sym c.has_limit.ensures ∙ c.if-has_limit.true)) }
