-- Decimal numbers of up to 64 digits, and the digits that say them.
use Rattle.std.proofs.Common.{◌≡◌, ◌≢◌, ℕ, zero, suc, ◌+◌, ◌*◌, ◌/◌, ◌%◌, ◌<◌, ◌≤◌, ◌^◌, List, [], ◌∷◌, ◌++◌, length, get_or, sym, ap, ◌∙◌, subst, arith}
use Rattle.std.specs.Char.{digit_value}
use Rattle.std.specs.Fmt.{decimal}
use Rattle.std.specs.Str.Parse.{AllDigits, IsNumeral, digits_value, digits_value_after, without_leading_plus}
use Rattle.std.proofs.lemmas.Fmt.{decimal_by_steps_wide, decimal_digit, decimal_step_wide}
use Rattle.std.proofs.lemmas.List.{append_assoc, append-nil, get_or_append_left, length-append}
use Rattle.std.proofs.lemmas.Str.{digit_value_digit}
use Rattle.std.proofs.lemmas.Str.Parse.{digit_from_value, without_leading_plus_none}

le_value_after : (n : ℕ) (ds : List ℕ) → n ≤ digits_value_after 10 n ds
le_value_after n [] = omega arith
le_value_after n (c ∷ cs) = omega (arith, le_value_after (n * 10 + digit_value c) cs)

-- digits after those of a number that isn't 0
value_after : (n : ℕ) (ds : List ℕ) → 0 < n → AllDigits 10 ds → digits_value_after 10 n ds < 10 ^ 64 → decimal (digits_value_after 10 n ds) ≡ decimal n ++ ds
value_after n [] some d small = sym (append-nil (decimal n))
value_after n (c ∷ cs) some d small =
    let m : ℕ = n * 10 + digit_value c in
    let k = digit_value_digit c (digit_from_value c d.0) in
    let front : m / 10 ≡ n = omega (arith, d.0) in
    let end : 48 + m % 10 ≡ c = omega (arith, d.0) in
    value_after m cs (omega arith) d.1 small
    ∙ ap (λ x. x ++ cs) (decimal_step_wide m (omega arith) (omega (arith, le_value_after m cs)) ∙ (λ i. decimal (front i) ++ (end i ∷ [])))
    ∙ append_assoc (decimal n) (c ∷ []) cs

-- digits with no leading zero, or just `0`, are what `decimal` writes of their value; std says it below 2 ^ 64 alone
value_digits : (ds : List ℕ) → AllDigits 10 ds → 0 < length ds → (get_or ds 0 0 ≡ 48 → length ds ≡ 1) → digits_value 10 ds < 10 ^ 64 → decimal (digits_value 10 ds) ≡ ds
value_digits [] d some lead small = absurd (omega arith)
value_digits (c ∷ []) d some lead small =
    let k = digit_value_digit c (digit_from_value c d.0) in
    decimal_digit (0 * 10 + digit_value c) (omega (arith, d.0)) ∙ ap (λ x. x ∷ []) (omega arith)
value_digits (c ∷ e ∷ cs) d some lead small =
    let k = digit_value_digit c (digit_from_value c d.0) in
    let no : c ≡ 48 → ⊥ = λ z. omega (arith, lead z) in
    let is : 48 + (0 * 10 + digit_value c) ≡ c = omega arith in
    value_after (0 * 10 + digit_value c) (e ∷ cs) (omega arith) d.1 small
    ∙ ap (λ x. x ++ (e ∷ cs)) (decimal_digit (0 * 10 + digit_value c) (omega (arith, d.0)) ∙ ap (λ x. x ∷ []) is)

-- a plain word that is read as a number is the number in decimal
pub plain_is_decimal : (word : List ℕ) (n : ℕ) → n < 2 ^ 128 → get_or word 0 0 ≢ 43 → (get_or word 0 0 ≡ 48 → length word ≡ 1)
    → IsNumeral 10 (without_leading_plus word) → n ≡ digits_value 10 (without_leading_plus word) → word ≡ decimal n
plain_is_decimal word n fits unsigned lead numeral is =
    let whole : without_leading_plus word ≡ word = without_leading_plus_none word unsigned in
    let k : IsNumeral 10 word = subst (IsNumeral 10) whole numeral in
    let value : n ≡ digits_value 10 word = is ∙ ap (digits_value 10) whole in
    sym (ap decimal value ∙ value_digits word k.1 k.0 lead (omega (arith, value)))

-- the first of the digits is no zero, where the number isn't 0
abbrev IsLed : ℕ → List ℕ → Type 0
IsLed n ds = (0 < length ds) × (0 < n → 48 < get_or ds 0 0)

led : (n : ℕ) → n < 10 ^ 64 → IsLed n (decimal n)
led = decimal_by_steps_wide IsLed one more
  where
    one : (m : ℕ) → m < 10 → IsLed m ((48 + m) ∷ [])
    one m l = (omega arith, λ some. omega arith)

    more : (m : ℕ) (ds : List ℕ) → 10 ≤ m → IsLed (m / 10) ds → IsLed m (ds ++ ((48 + m % 10) ∷ []))
    more m ds le h = (omega (arith, h.0, length-append ds ((48 + m % 10) ∷ [])), λ some. omega (arith, h.1 (omega arith), get_or_append_left ds ((48 + m % 10) ∷ []) 0 0 h.0))

-- a number in decimal begins with no zero that more follows
pub decimal_led : (n : ℕ) → n < 2 ^ 128 → get_or (decimal n) 0 0 ≡ 48 → length (decimal n) ≡ 1
decimal_led zero fits zeroed = ap length (decimal_digit 0 (omega arith))
decimal_led (suc n) fits zeroed = absurd (omega (arith, (led (suc n) (omega arith)).1 (omega arith)))

-- nor with a sign
pub decimal_unsigned : (n : ℕ) → n < 2 ^ 128 → get_or (decimal n) 0 0 ≢ 43
decimal_unsigned zero fits sign = absurd (omega (arith, ap (λ ds. get_or ds 0 0) (decimal_digit 0 (omega arith))))
decimal_unsigned (suc n) fits sign = absurd (omega (arith, (led (suc n) (omega arith)).1 (omega arith)))
