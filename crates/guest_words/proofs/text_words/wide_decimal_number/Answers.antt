use Rattle.std.proofs.Common.{rules}
use Rattle.guest_words.proofs.Numerals.{decimal_led, decimal_unsigned, plain_is_decimal}
use Rattle.guest_words.proofs.text_words.wide_decimal_number.Goals as goal

pub returns-in-Some-clause-found : goal.returns-in-Some-clause-found
returns-in-Some-clause-found c = search (rules, plain_is_decimal)

pub returns-in_default-clause-only : goal.returns-in_default-clause-only
returns-in_default-clause-only c n fits is = search (rules, decimal_led n fits, decimal_unsigned n fits)
