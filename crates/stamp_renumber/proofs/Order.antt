-- Classes rise with stamps, and new stamps follow the classes.
use Rattle.std.proofs.Common.{◌≡◌, ℕ, ◌+◌, ◌*◌, ◌<◌, ◌≤◌, cond, eqb, ltb, leb, List, [], ◌∷◌, length, true, refl, sym, ap, subst, ◌∙◌, inl, inr, arith}
use Rattle.std.specs.Prelude.{Contains}
use Rattle.std.specs.Cmp.{IsEquivalence}
use Rattle.std.specs.List.{list_any}
use Rattle.std.proofs.lemmas.Bool.{lt-ltb, le-ltb, lt-leb, le-leb, cases_lt, cases_eq, eqb-true, eq-eqb, or_cases, false≢true}
use Rattle.std.proofs.lemmas.Bool.Decides.{nat_tests}
use Rattle.std.proofs.lemmas.List.Sums.{sum_by-cons, count_by-le-length}
use Rattle.std.proofs.lemmas.Map.Views.{list_any-from_Contains}
use Rattle.stamp_lanes.specs.Plain.{renewed}
use Rattle.stamp_renumber.specs.Classes.{class, new_access}
use Rattle.stamp_renumber.specs.Laws.{StartsKeepOrder, AccessesKeepOrder, WritesKeepOrder, WritesStay, AccessesStay, NewStampsFit}

pub class-cons : (x : ℕ) (starts : List ℕ) (s : ℕ) → class (x ∷ starts) s ≡ cond (leb x s) 1 0 + class starts s
class-cons x starts s = sum_by-cons (λ x. cond (leb x s) 1 0) x starts

one_mono : (x s r : ℕ) → s ≤ r → cond (leb x s) 1 0 ≤ cond (leb x r) 1 0
one_mono x s r h = grind (arith, nat_tests)

pub class-mono : (starts : List ℕ) (s r : ℕ) → s ≤ r → class starts s ≤ class starts r
class-mono [] s r h = omega arith
class-mono (x ∷ starts) s r h =
    omega (arith, class-cons x starts s, class-cons x starts r, one_mono x s r h, class-mono starts s r h)

one_strict : (x s : ℕ) → s < x → cond (leb x s) 1 0 + 1 ≤ cond (leb x x) 1 0
one_strict x s h = grind (arith, nat_tests)

equal_numbers : IsEquivalence eqb
equal_numbers = record {
  refl = λ x. eq-eqb x x refl;
  symm = λ x y. symm x y;
  congr = λ x y z h. ap (λ w. eqb w z) (eqb-true x y h);
}
  where
    symm : (x y : ℕ) → eqb x y ≡ eqb y x
    symm x y = grind (arith, nat_tests)

is_among : (starts : List ℕ) (y : ℕ) → Contains starts y → list_any (eqb y) starts ≡ true
is_among starts y among = list_any-from_Contains equal_numbers y starts among

-- a start counts in its own class, and in none below
strict : (starts : List ℕ) (s y : ℕ) → list_any (eqb y) starts ≡ true → s < y → class starts s < class starts y
strict [] s y among h = absurd (false≢true among)
strict (x ∷ starts) s y among h =
    elim (or_cases (eqb y x) (list_any (eqb y) starts) among) [
      | inl here ↦
          let e = eqb-true y x here in
          let one : cond (leb x s) 1 0 + 1 ≤ cond (leb x y) 1 0 =
          subst (λ z. cond (leb x s) 1 0 + 1 ≤ cond (leb x z) 1 0) (sym e) (one_strict x s (omega (arith, e))) in
          omega (arith, class-cons x starts s, class-cons x starts y, one, class-mono starts s y (omega arith))
      | inr later ↦
          omega (arith, class-cons x starts s, class-cons x starts y, one_mono x s y (omega arith), strict starts s y later h)
    ]

pub class-strict : (starts : List ℕ) (s y : ℕ) → Contains starts y → s < y → class starts s < class starts y
class-strict starts s y among = strict starts s y (is_among starts y among)

pub class-le-length : (starts : List ℕ) (s : ℕ) → class starts s ≤ length starts
class-le-length starts s = count_by-le-length (λ x. leb x s) starts

pub starts_keep_order : StartsKeepOrder
starts_keep_order starts x y sx sy =
    elim (cases_lt x y) [
      | inl h ↦ lt-ltb _ _ (omega (arith, class-strict starts x y sy h)) ∙ sym (lt-ltb x y h)
      | inr h ↦ le-ltb _ _ (omega (arith, class-mono starts y x h)) ∙ sym (le-ltb x y h)
    ]

renewed_near :
    (access write k j : ℕ) → 0 < access →
    (3 * k ≤ renewed (record { own = access; own_class = k; write = write; write_class = j }))
    × (renewed (record { own = access; own_class = k; write = write; write_class = j }) ≤ 3 * k + 2)
renewed_near access write k j h = (grind (arith, nat_tests), grind (arith, nat_tests))

pub accesses_keep_order : AccessesKeepOrder
accesses_keep_order starts x access write sx positive =
    elim (cases_eq access 0) [
      | inl e ↦
          let zero_new : new_access starts access write ≡ 0 = ap (λ a. new_access starts a write) e in
          let some : 0 < class starts x = omega (arith, class-strict starts 0 x sx positive) in
          lt-leb _ _ (omega (arith, zero_new)) ∙ sym (lt-leb x access (omega arith))
      | inr n ↦
          let near = renewed_near access write (class starts access) (class starts write) (omega arith) in
          elim (cases_lt access x) [
            | inl h ↦ lt-leb _ _ (omega (arith, near, class-strict starts access x sx h)) ∙ sym (lt-leb x access h)
            | inr h ↦ le-leb _ _ (omega (arith, near, class-mono starts x access h)) ∙ sym (le-leb x access h)
          ]
    ]

writes_in_order :
    (a w k j : ℕ) → (a ≤ w → k ≤ j) → (w ≤ a → j ≤ k) →
    ltb (renewed (record { own = a; own_class = k; write = w; write_class = j })) (cond (eqb w 0) 0 (3 * j + 1)) ≡ ltb a w
writes_in_order a w k j up down = grind (arith, nat_tests)

pub writes_keep_order : WritesKeepOrder
writes_keep_order starts access write =
    writes_in_order access write (class starts access) (class starts write) (class-mono starts access write)
    (class-mono starts write access)

pub writes_stay : WritesStay
writes_stay starts write = by write (class starts write)
  where
    by : (w k : ℕ) → eqb (cond (eqb w 0) 0 (3 * k + 1)) 0 ≡ eqb w 0
    by w k = grind (arith, nat_tests)

pub accesses_stay : AccessesStay
accesses_stay starts x access write sx positive above =
    by access write (class starts access) (class starts write)
    (λ h. omega (arith, class-strict starts 0 x sx positive, class-mono starts x access (above h)))
  where
    by :
        (a w k j : ℕ) → (0 < a → 0 < k) →
        eqb (renewed (record { own = a; own_class = k; write = w; write_class = j })) 0 ≡ eqb a 0
    by a w k j h = grind (arith, nat_tests)

pub new_stamps_fit : NewStampsFit
new_stamps_fit starts access write =
    let a = class-le-length starts access in
    let w = class-le-length starts write in (
      omega arith,
      by_write write (class starts write) (length starts) w,
      by_access access write (class starts access) (class starts write) (length starts) a,
    )
  where
    by_write : (w k n : ℕ) → k ≤ n → cond (eqb w 0) 0 (3 * k + 1) < 3 * n + 3
    by_write w k n h = grind (arith, nat_tests)

    by_access : (a w k j n : ℕ) → k ≤ n → renewed (record { own = a; own_class = k; write = w; write_class = j }) < 3 * n + 3
    by_access a w k j n h = grind (arith, nat_tests)
