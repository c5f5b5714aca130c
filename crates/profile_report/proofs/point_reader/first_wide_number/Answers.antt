use Rattle.std.proofs.Common.{◌∙◌, sym, arith}
use Rattle.guest_words.proofs.Cuts.{cut_once, lacks_decimal}
use Rattle.guest_words.proofs.Found.{nothing, same}
use Rattle.profile_report.proofs.point_reader.first_wide_number.Goals as goal

pub returns-in_err-wide_decimal_number-clause-only : goal.returns-in_err-wide_decimal_number-clause-only
returns-in_err-wide_decimal_number-clause-only c n rest fits is =
    let parts = cut_once 32 _ _ _ _ c.in_ok-word.ensures.parts.0 (lacks_decimal 32 n (λ r. omega arith) fits) (sym c.in_ok-word.ensures.parts.1 ∙ is) in
    absurd (nothing _ _ c.in_err-wide_decimal_number.was (c.wide_decimal_number.ensures.only n fits parts.0))

pub returns-clause-only : goal.returns-clause-only
returns-clause-only c n rest fits is =
    let parts = cut_once 32 _ _ _ _ c.in_ok-word.ensures.parts.0 (lacks_decimal 32 n (λ r. omega arith) fits) (sym c.in_ok-word.ensures.parts.1 ∙ is) in
    (same _ _ _ c.in_ok-wide_decimal_number.was (c.wide_decimal_number.ensures.only n fits parts.0), parts.1)
