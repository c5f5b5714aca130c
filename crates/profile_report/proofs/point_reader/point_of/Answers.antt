use Rattle.std.proofs.Common.{Some, ◌∙◌, sym, subst, ap}
use Rattle.std.proofs.lemmas.Bool.{false≢true}
use Rattle.cost_points.specs.Valid.{IsPoint}
use Rattle.guest_words.proofs.Found.{nothing, same}
use Rattle.profile_report.proofs.PointWords.{point_words, same_numbers}
use Rattle.profile_report.proofs.point_reader.point_of.Goals as goal

pub returns-in_err-size-clause-only : goal.returns-in_err-size-clause-only
returns-in_err-size-clause-only c p fits is =
    absurd (c.in_err-size.ensures.only p.size _ fits.size (is ∙ point_words p))

pub returns-in_err-calls-clause-only : goal.returns-in_err-calls-clause-only
returns-in_err-calls-clause-only c p fits is =
    let size = c.in_ok-size.ensures.only p.size _ fits.size (is ∙ point_words p) in
    absurd (c.in_err-calls.ensures.only p.calls _ fits.calls size.1)

pub returns-in_err-least-clause-only : goal.returns-in_err-least-clause-only
returns-in_err-least-clause-only c p fits is =
    let size = c.in_ok-size.ensures.only p.size _ fits.size (is ∙ point_words p) in
    let calls = c.in_ok-calls.ensures.only p.calls _ fits.calls size.1 in
    absurd (c.in_err-least.ensures.only p.least _ fits.least calls.1)

pub returns-in_err-most-clause-only : goal.returns-in_err-most-clause-only
returns-in_err-most-clause-only c p fits is =
    let size = c.in_ok-size.ensures.only p.size _ fits.size (is ∙ point_words p) in
    let calls = c.in_ok-calls.ensures.only p.calls _ fits.calls size.1 in
    let least = c.in_ok-least.ensures.only p.least _ fits.least calls.1 in
    absurd (c.in_err-most.ensures.only p.most _ fits.most least.1)

pub returns-in_err-sum-clause-only : goal.returns-in_err-sum-clause-only
returns-in_err-sum-clause-only c p fits is =
    let size = c.in_ok-size.ensures.only p.size _ fits.size (is ∙ point_words p) in
    let calls = c.in_ok-calls.ensures.only p.calls _ fits.calls size.1 in
    let least = c.in_ok-least.ensures.only p.least _ fits.least calls.1 in
    let most = c.in_ok-most.ensures.only p.most _ fits.most least.1 in
    absurd (nothing _ _ c.in_err-sum.was (c.sum_and_split.ensures.only p.sum p.split fits.sum fits.split most.1))

pub returns-then-is_point-clause-only : goal.returns-then-is_point-clause-only
returns-then-is_point-clause-only c p fits is =
    let size = c.in_ok-size.ensures.only p.size _ fits.size (is ∙ point_words p) in
    let calls = c.in_ok-calls.ensures.only p.calls _ fits.calls size.1 in
    let least = c.in_ok-least.ensures.only p.least _ fits.least calls.1 in
    let most = c.in_ok-most.ensures.only p.most _ fits.most least.1 in
    let sum = same _ _ _ c.in_ok-sum.was (c.sum_and_split.ensures.only p.sum p.split fits.sum fits.split most.1) in
    ap Some (same_numbers _ p size.0 calls.0 least.0 most.0 (ap (λ x. x.0) sum) (ap (λ x. x.1) sum))

pub returns-else-is_point-clause-only : goal.returns-else-is_point-clause-only
returns-else-is_point-clause-only c p fits is =
    let size = c.in_ok-size.ensures.only p.size _ fits.size (is ∙ point_words p) in
    let calls = c.in_ok-calls.ensures.only p.calls _ fits.calls size.1 in
    let least = c.in_ok-least.ensures.only p.least _ fits.least calls.1 in
    let most = c.in_ok-most.ensures.only p.most _ fits.most least.1 in
    let sum = same _ _ _ c.in_ok-sum.was (c.sum_and_split.ensures.only p.sum p.split fits.sum fits.split most.1) in
    let one = same_numbers _ p size.0 calls.0 least.0 most.0 (ap (λ x. x.0) sum) (ap (λ x. x.1) sum) in
    absurd (false≢true (sym c.if-is_point.false ∙ c.is_point.ensures.1 (subst IsPoint (sym one) fits.costs)))
