-- Lists cut at a byte that doesn't occur before.
use Rattle.std.proofs.Common.{◌≡◌, ◌≢◌, ℕ, suc, ◌<◌, ◌^◌, true, List, [], ◌∷◌, ◌++◌, length, get_or, refl, arith}
use Rattle.std.specs.Int.{IsInRange}
use Rattle.std.specs.Fmt.{decimal}
use Rattle.std.specs.Str.Parse.{AllDigits}
use Rattle.std.proofs.lemmas.Bool.Decides.{nat_tests}
use Rattle.std.proofs.lemmas.Fmt.{decimal_is_IsNumeral_wide}
use Rattle.std.proofs.lemmas.Str.Parse.{not_in_digits, numerals_by_value, tells_digits}
use Rattle.guest_words.specs.Separators.{lacks}

-- a byte that isn't the separator
lacks_head : (c x : ℕ) (xs : List ℕ) → lacks c (x ∷ xs) ≡ true → (x ≡ c → ⊥) × (lacks c xs ≡ true)
lacks_head c x xs h = grind (arith, nat_tests)

-- the separator occurs
pub lacks_not : (c : ℕ) (xs ys : List ℕ) → lacks c (xs ++ c ∷ ys) ≡ true → ⊥
lacks_not c [] ys h = (lacks_head c c ys h).0 refl
lacks_not c (x ∷ xs) ys h = lacks_not c xs ys (lacks_head c x (xs ++ c ∷ ys) h).1

-- there is one way to cut a list at the first separator
pub cut_once : (c : ℕ) (a w b r : List ℕ) → lacks c a ≡ true → lacks c w ≡ true → a ++ c ∷ b ≡ w ++ c ∷ r → (a ≡ w) × (b ≡ r)
cut_once c [] [] b r la lw e = (refl, cc)
cut_once c [] (y ∷ ys) b r la lw e = absurd ((lacks_head c y ys lw).0 (cc))
cut_once c (x ∷ xs) [] b r la lw e = absurd ((lacks_head c x xs la).0 (cc))
cut_once c (x ∷ xs) (y ∷ ys) b r la lw e =
    let rest : (xs ≡ ys) × (b ≡ r) = cut_once c xs ys b r (lacks_head c x xs la).1 (lacks_head c y ys lw).1 (cc) in
    let front : xs ≡ ys = rest.0 in
    let head : x ≡ y = cc in
    (cc, rest.1)

-- a byte that stands at no place doesn't occur
pub lacks_at : (c : ℕ) (xs : List ℕ) → ((i : ℕ) → i < length xs → get_or xs i 0 ≢ c) → lacks c xs ≡ true
lacks_at c [] h = refl
lacks_at c (x ∷ xs) h =
    let rest : lacks c xs ≡ true = lacks_at c xs (λ i l. h (suc i) (omega arith)) in
    let other : x ≢ c = h 0 (omega arith) in
    grind (arith, nat_tests)

-- digits have no byte that is no digit
pub lacks_decimal : (c n : ℕ) → (IsInRange 48 57 c → ⊥) → n < 2 ^ 128 → lacks c (decimal n) ≡ true
lacks_decimal c n other fits =
    let digits = (decimal_is_IsNumeral_wide n (omega arith)).0.1 in
    lacks_at c (decimal n) (not_in_digits (numerals_by_value (AllDigits 10) tells_digits) (decimal n) c digits other)
