use Rattle.std.proofs.Common.{Some, ◌∙◌, sym, subst, ap, ap₂}
use Rattle.std.specs.Option.{IfSome}
use Rattle.guest_words.proofs.Found.{nothing, same}
use Rattle.profile_report.specs.Fits.{FitsSplit}
use Rattle.profile_report.proofs.PointWords.{told}
use Rattle.profile_report.proofs.point_reader.sum_and_split.Goals as goal

pub returns-in_err-wide_decimal_number-in-Some-clause-only : goal.returns-in_err-wide_decimal_number-in-Some-clause-only
returns-in_err-wide_decimal_number-in-Some-clause-only c sum split fits parts is =
    let t = told _ _ sum split c.in-Some.ensures.parts.0 fits (sym c.in-Some.ensures.parts.1 ∙ is) in
    absurd (nothing _ _ c.in_err-wide_decimal_number-in-Some.was (c.wide_decimal_number.ensures.only sum fits t.2))

pub returns-in_err-split_of-in-Some-clause-only : goal.returns-in_err-split_of-in-Some-clause-only
returns-in_err-split_of-in-Some-clause-only c sum split fits parts is =
    let t = told _ _ sum split c.in-Some.ensures.parts.0 fits (sym c.in-Some.ensures.parts.1 ∙ is) in
    absurd (nothing _ _ c.in_err-split_of-in-Some.was (c.split_of.ensures.only t.0 (subst (λ o. IfSome o FitsSplit) t.1 parts) t.3))

pub returns-in_ok-split_of-in-Some-clause-only : goal.returns-in_ok-split_of-in-Some-clause-only
returns-in_ok-split_of-in-Some-clause-only c sum split fits parts is =
    let t = told _ _ sum split c.in-Some.ensures.parts.0 fits (sym c.in-Some.ensures.parts.1 ∙ is) in
    let number = same _ _ _ c.in_ok-wide_decimal_number-in-Some.was (c.wide_decimal_number.ensures.only sum fits t.2) in
    let four = same _ _ _ c.in_ok-split_of-in-Some.was (c.split_of.ensures.only t.0 (subst (λ o. IfSome o FitsSplit) t.1 parts) t.3) in
    ap₂ (λ n s. Some (n, Some s)) number four ∙ ap (λ o. Some (sum, o)) (sym t.1)
