use Rattle.std.proofs.Common.{◌≡◌, [], ◌∷◌, ◌++◌, length, ap, ◌∙◌, sym, subst}
use Rattle.std.specs.Result.{MatchResult}
use Rattle.std.proofs.lemmas.Bool.{eqb-false, eqb-true}
use Rattle.std.proofs.lemmas.List.{append-nil, nil_from_length}
use Rattle.std.proofs.lemmas.Result.{err_from_is_err_and}
use Rattle.thread_sched.specs.declared.schedule.ScheduleError.TheVariants.{Memory}
use Rattle.thread_sched.proofs.Read.{allowed, behind_more, last_entry, left_fit, line_entry, none_left}
use Rattle.thread_sched.proofs.schedule.Schedule.read.Goals as goal

pub loop-line-preserved : goal.loop-line-preserved
loop-line-preserved c =
    let parts = c.in-Some.ensures.parts in
    let pushed = c.in_ok-push_line.ensures.ok in
    behind_more _ _ _ _ _ pushed.0 _ c.loop-line.invariant parts.0 parts.1 pushed.1 pushed.2

pub returns-in_err-push_line-clause-only : goal.returns-in_err-push_line-clause-only
returns-in_err-push_line-clause-only c s fit is =
    let parts = c.in-Some.ensures.parts in
    let given = err_from_is_err_and c.from_residual.result c.from_residual.ensures.1 in
    let next = line_entry _ _ _ _ (left_fit _ _ _ c.loop-line.invariant s fit is) parts.0 parts.1 (c.loop-line.invariant.follow s fit is).2 in
    subst (λ q. MatchResult q (λ x. x ≡ s) (λ e. e ≡ Memory)) (sym given.1) (given.2 ∙ allowed _ _ _ next.0 next.3 next.4 c.in_err-push_line.ensures.err)

pub returns-then-is_empty-clause-only : goal.returns-then-is_empty-clause-only
returns-then-is_empty-clause-only c s fit is =
    let more = c.loop-line.invariant.follow s fit is in
    let empty = nil_from_length _ (eqb-true _ _ (sym c.is_empty.ensures ∙ c.if-is_empty.true)) in
    let none = none_left _ more.0 (left_fit _ _ _ c.loop-line.invariant s fit is) empty more.2 in
    sym (more.1 ∙ ap (λ es. c.loop-line.entries.items ++ es) none ∙ append-nil c.loop-line.entries.items)

pub returns-in_err-push_line-2-clause-only : goal.returns-in_err-push_line-2-clause-only
returns-in_err-push_line-2-clause-only c s fit is =
    let more = c.loop-line.invariant.follow s fit is in
    let given = err_from_is_err_and c.from_residual-in_err-push_line-2.result c.from_residual-in_err-push_line-2.ensures.1 in
    let last = last_entry _ more.0 (left_fit _ _ _ c.loop-line.invariant s fit is) c.in_default.ensures.none (λ e. eqb-false _ _ (sym c.is_empty.ensures ∙ c.if-is_empty.false) (ap length e)) more.2 in
    subst (λ q. MatchResult q (λ x. x ≡ s) (λ e. e ≡ Memory)) (sym given.1) (given.2 ∙ allowed _ _ _ last.0 last.2 last.3 c.in_err-push_line-2.ensures.err)

pub returns-clause-only : goal.returns-clause-only
returns-clause-only c s fit is =
    let more = c.loop-line.invariant.follow s fit is in
    let pushed = c.in_ok-push_line-2.ensures.ok in
    let last = last_entry _ more.0 (left_fit _ _ _ c.loop-line.invariant s fit is) c.in_default.ensures.none (λ e. eqb-false _ _ (sym c.is_empty.ensures ∙ c.if-is_empty.false) (ap length e)) more.2 in
    let one = pushed.1.alone last.0 last.2 last.3 in
    pushed.2 ∙ sym (more.1 ∙ ap (λ es. c.loop-line.entries.items ++ es) (last.1 ∙ ap (λ e. e ∷ []) one))
