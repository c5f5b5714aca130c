-- Texts of one to twenty digits, and the numbers that they say.
use Rattle.std.proofs.Common.{◌≡◌, ℕ, Bool, true, false, subst, ◌<◌, ◌^◌, ◌&&◌, List, [], ◌∷◌, length, Some, None, ap, sym, arith, nat_le, cond}
use Rattle.std.proofs.lemmas.Bool.Decides.{nat_tests}
use Rattle.std.proofs.lemmas.Str.Parse.{without_leading_plus_none}
use Rattle.std.specs.Char.{digit_value}
use Rattle.std.specs.List.{list_all}
use Rattle.std.specs.Str.Parse.{AllDigits, IsNumeral, digits_value, without_leading_plus}
use Rattle.std.proofs.lemmas.Bool.{and_parts}
use Rattle.command_line.specs.Options.{is_digit, is_numeral, number_between}

digit_below : (b : ℕ) → is_digit b ≡ true → digit_value b < 10
digit_below b h = grind (arith, nat_tests)

all_digits : (ds : List ℕ) → list_all is_digit ds ≡ true → AllDigits 10 ds
all_digits [] h = tt
all_digits (d ∷ ds) h =
    let two = and_parts (is_digit d) (list_all is_digit ds) h in
    (digit_below d two.0, all_digits ds two.1)

-- a numeral has no plus sign, and is a numeral as `parse` means it
numeral_is : (text : List ℕ) → is_numeral text ≡ true → IsNumeral 10 text × (without_leading_plus text ≡ text)
numeral_is [] h = cc
numeral_is (d ∷ ds) h =
    let digits = (and_parts (nat_le 1 (length (d ∷ ds)) && nat_le (length (d ∷ ds)) 20) (list_all is_digit (d ∷ ds)) h).1 in
    let first : is_digit d ≡ true = (and_parts (is_digit d) (list_all is_digit ds) digits).0 in
    ((omega arith, all_digits (d ∷ ds) digits), without_leading_plus_none (d ∷ ds) (λ (plus : d ≡ 43). let no : false ≡ true = subst (λ x. is_digit x ≡ true) plus first in cc))

out_of_range : (least greatest number : ℕ) (b : Bool) → greatest < number → (b && nat_le least number && nat_le number greatest) ≡ false
out_of_range least greatest number b h = let no : nat_le number greatest ≡ false = grind (arith, nat_tests) in rw no (grind arith)

-- where `parse` gives no number, it is too great
pub number_too_long : (least greatest : ℕ) (text : List ℕ) → is_numeral text ≡ true → greatest < 2 ^ 64
    → (IsNumeral 10 (without_leading_plus text) × (digits_value 10 (without_leading_plus text) < 2 ^ 64) → ⊥)
    → None ≡ number_between least greatest text
number_too_long least greatest text h fits fails =
    let is = numeral_is text h in
    let great : digits_value 10 text < 2 ^ 64 → ⊥ = λ small. fails (rw is.1 (is.0, small)) in
    let beyond : greatest < digits_value 10 text = omega (arith, great) in
    sym (ap (λ b. cond b (Some (digits_value 10 text)) None) (out_of_range least greatest (digits_value 10 text) (is_numeral text) beyond))

-- the number that `parse` gives
pub number_read : (text : List ℕ) → is_numeral text ≡ true → digits_value 10 (without_leading_plus text) ≡ digits_value 10 text
number_read text h = ap (digits_value 10) (numeral_is text h).1
