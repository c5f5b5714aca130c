use Rattle.std.proofs.Common.{◌∙◌, sym, arith}
use Rattle.guest_words.proofs.Cuts.{cut_once, lacks_decimal}
use Rattle.guest_words.proofs.Found.{nothing, same}
use Rattle.guest_words.proofs.text_words.first_number.Goals as goal

pub returns-in_err-decimal_number-clause-only : goal.returns-in_err-decimal_number-clause-only
returns-in_err-decimal_number-clause-only c n rest fits is =
    let parts = cut_once 32 _ _ _ _ c.in_ok-word.ensures.parts.0 (lacks_decimal 32 n (λ r. omega arith) (omega arith)) (sym c.in_ok-word.ensures.parts.1 ∙ is) in
    absurd (nothing _ _ c.in_err-decimal_number.was (c.decimal_number.ensures.only n fits parts.0))

pub returns-clause-only : goal.returns-clause-only
returns-clause-only c n rest fits is =
    let parts = cut_once 32 _ _ _ _ c.in_ok-word.ensures.parts.0 (lacks_decimal 32 n (λ r. omega arith) (omega arith)) (sym c.in_ok-word.ensures.parts.1 ∙ is) in
    (same _ _ _ c.in_ok-decimal_number.was (c.decimal_number.ensures.only n fits parts.0), parts.1)
