use Rattle.std.proofs.Common.{reverse, ap, sym, ◌∙◌}
use Rattle.trace_model.specs.declared.event_kinds.Touch.TheVariants.{Untouched}
use Rattle.trace_model.specs.Sizes.{last_touch}
use Rattle.trace_model.specs.Causes.{is_by}
use Rattle.trace_model.proofs.Causes.{counts_touched, touched_by_others}
use Rattle.trace_model.proofs.sizes.counted_touch.Goals as goal

pub returns-in-Untouched : goal.returns-in-Untouched
returns-in-Untouched c =
    let inside = reverse c.args.inside.now in
    let past = reverse c.args.before.now in
    λ cause.
    ap (is_by cause) c.last_touch-in-Untouched.ensures
    ∙ counts_touched cause inside past c.args.tid c.args.word Untouched (sym c.in-Untouched.is ∙ c.last_touch.ensures)

pub returns-in_default : goal.returns-in_default
returns-in_default c =
    let inside = reverse c.args.inside.now in
    let past = reverse c.args.before.now in
    let seen = c.last_touch.result in
    λ cause.
    touched_by_others cause seen (last_touch past c.args.tid c.args.word) c.in_default.not-Untouched c.in_default.not-ByItself
    ∙ counts_touched cause inside past c.args.tid c.args.word seen c.last_touch.ensures
