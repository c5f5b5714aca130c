-- The names of the routines are names.
use Rattle.std.proofs.Common.{◌≡◌, ℕ, ◌+◌, ◌%◌, ◌<◌, ◌≤◌, ◌^◌, true, List, [], ◌∷◌, ◌++◌, length, arith, ◌∙◌}
use Rattle.std.specs.Fmt.{decimal}
use Rattle.std.specs.List.{list_all}
use Rattle.std.proofs.lemmas.Bool.Decides.{nat_tests}
use Rattle.std.proofs.lemmas.Fmt.{decimal_by_steps_wide, decimal_nonempty, length-decimal-le}
use Rattle.std.proofs.lemmas.List.Folds.{list_all-append}
use Rattle.guest_words.specs.Names.{is_name, is_visible}

-- the digits of a number are visible
visible : (n : ℕ) → n < 10 ^ 64 → list_all is_visible (decimal n) ≡ true
visible = decimal_by_steps_wide (λ n ds. list_all is_visible ds ≡ true) one more
  where
    one : (m : ℕ) → m < 10 → list_all is_visible ((48 + m) ∷ []) ≡ true
    one m small = grind (arith, nat_tests)

    more : (m : ℕ) (ds : List ℕ) → 10 ≤ m → list_all is_visible ds ≡ true → list_all is_visible (ds ++ ((48 + m % 10) ∷ [])) ≡ true
    more m ds large seen = list_all-append is_visible ds ((48 + m % 10) ∷ []) ∙ rw seen (one (m % 10) (omega arith))

-- an r and digits
led : (ds : List ℕ) → 0 < length ds → length ds ≤ 20 → list_all is_visible ds ≡ true → is_name (114 ∷ ds) ≡ true
led ds some short seen = rw seen (grind (arith, nat_tests))

pub routine_is_name : (n : ℕ) → n < 2 ^ 64 → is_name (114 ∷ decimal n) ≡ true
routine_is_name n small = led (decimal n) (decimal_nonempty n small) (length-decimal-le 20 n (omega arith) (omega arith) small) (visible n (omega arith))
