-- A set of entries and one more.
use Rattle.std.proofs.Common.{◌≡◌, ℕ, Bool, true, false, List, [], ◌∷◌, refl, ap, arith}
use Rattle.std.specs.Prelude.{nat_lt, ◌==◌}
use Rattle.std.specs.Ordering.{nat_cmp}
use Rattle.std.specs.BTreeSet.{insert_key}
use Rattle.std.proofs.lemmas.Bool.Decides.{nat_tests}
use Rattle.cost_points.specs.Keys.{insert_rising}

pub insert_is : (entry : ℕ) (entries : List ℕ) → insert_key nat_cmp entries entry ≡ insert_rising entry entries
insert_is k [] = refl
insert_is k (x ∷ xs) = by (nat_lt k x) (k == x) refl refl (insert_is k xs)
  where
    by : (less same : Bool) → nat_lt k x ≡ less → (k == x) ≡ same → insert_key nat_cmp xs k ≡ insert_rising k xs → insert_key nat_cmp (x ∷ xs) k ≡ insert_rising k (x ∷ xs)
    by true true l s rec = absurd (grind (arith, nat_tests))
    by true false l s rec = rw (l, s) refl
    by false true l s rec = rw (l, s) refl
    by false false l s rec = rw (l, s) (ap (λ ks. x ∷ ks) rec)
