use Rattle.std.proofs.Common.{◌≤◌, ℕ, ◌+◌, ◌*◌, ap, ◌∙◌, subst, sym}
use Rattle.std.specs.Prelude.{◌↔◌, is_some, not}
use Rattle.stamps.specs.Widths.{greatest}
use Rattle.stamps.specs.declared.width.StampBits.TheVariants.{B32}
use Rattle.call_tracker.specs.CallStacks.{StacksStandFor}
use Rattle.stored_traces.specs.Kept.{KeptTrace}
use Rattle.stored_traces.proofs.Depth.{begun_within, still_within}
use Rattle.stored_traces.proofs.run_trace.RunTrace.is_too_deep.Goals as goal

pub returns-else-is_some : goal.returns-else-is_some
returns-else-is_some c = λ past is.
    still_within (greatest B32) c.args.e.now past (ap is_some (sym c.entry_begun.ensures) ∙ sym c.if-is_some.ensures) is.within ∙ sym (ap not c.if-is_some.false)

pub returns-then-is_some : goal.returns-then-is_some
returns-then-is_some c = λ past is.
    begun_within (greatest B32) c.from.result c.args.e.now past
    (subst (λ (limit : ℕ). (n : ℕ) → (n ≤ limit) ↔ (3 * (n + 1) ≤ greatest B32)) (sym c.from.ensures) c.depth_limit.ensures)
    (ap is_some (sym c.entry_begun.ensures) ∙ sym c.is_some.ensures ∙ c.if-is_some.true) is.within c.pending.result (c.pending.ensures.stands past (subst (λ (k : KeptTrace). StacksStandFor k.stacks past) (sym c.self.view_is) is.stacks))
