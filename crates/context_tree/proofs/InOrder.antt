-- The contexts in order are those of the order's definition.
use Rattle.std.proofs.Common.{◌≡◌, ℕ, Bool, true, false, List, [], ◌∷◌, refl, sym, subst, arith}
use Rattle.std.specs.Prelude.{nat_lt, ◌==◌}
use Rattle.std.proofs.lemmas.Bool.Decides.{nat_tests}
use Rattle.context_tree.specs.Numbers.{NumbersStandFor}
use Rattle.context_tree.specs.Order.{IsInOrder, in_order, is_before, numbers_down_to}
use Rattle.context_tree.proofs.Places.{in_places}
use Rattle.context_tree.proofs.Sorting as sorting

-- of two different lists of numbers one alone is before the other
one_way : (ms ns : List ℕ) → is_before ms ns ≡ true → is_before ns ms ≡ false
one_way [] [] before = absurd (cc)
one_way [] (n ∷ ns) before = refl
one_way (m ∷ ms) [] before = absurd (cc)
one_way (m ∷ ms) (n ∷ ns) before = by (m == n) (nat_lt m n) refl refl (λ b. one_way ms ns b)
  where
    by : (same less : Bool) → (m == n) ≡ same → nat_lt m n ≡ less → (is_before ms ns ≡ true → is_before ns ms ≡ false) → is_before (n ∷ ns) (m ∷ ms) ≡ false
    by true less s l rest =
        let turned : (n == m) ≡ true = grind (arith, nat_tests, s) in
        rw turned (rest (rw s at before))
    by false true s l rest =
        let turned : (n == m) ≡ false = grind (arith, nat_tests, s) in
        let not_less : nat_lt n m ≡ false = grind (arith, nat_tests, l) in
        rw (turned, not_less) refl
    by false false s l rest = absurd (let no = rw (s, l) at before in cc)

pub is_in_order : (contexts ordered : List (List ℕ)) → IsInOrder contexts ordered → ordered ≡ in_order contexts
is_in_order contexts ordered is =
    sym (in_places (λ c d. is_before (numbers_down_to contexts c) (numbers_down_to contexts d))
    (λ c d. one_way (numbers_down_to contexts c) (numbers_down_to contexts d)) contexts ordered is.all is.order [])

-- they can be put in that order
pub have_order : (places : List (ℕ × ℕ)) (known : List (List ℕ)) → NumbersStandFor places known → IsInOrder known (in_order known)
have_order places known stands = let there = sorting.in_order known places stands in subst (IsInOrder known) (is_in_order known _ there) there
