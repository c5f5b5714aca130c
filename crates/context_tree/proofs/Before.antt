-- The order of lists of numbers, a beginning first.
use Rattle.std.proofs.Common.{◌≡◌, ℕ, ◌<◌, Bool, true, false, cond, ◌⊎◌, inl, inr, List, [], ◌∷◌, ◌++◌, refl, sym, ap, ap₂, ◌∙◌, arith}
use Rattle.std.specs.Prelude.{◌==◌, nat_lt}
use Rattle.std.proofs.lemmas.Bool.{eq-eqb}
use Rattle.std.proofs.lemmas.Bool.Decides.{nat_tests}
use Rattle.std.proofs.lemmas.List.{append-nil}
use Rattle.context_tree.specs.Order.{is_before}
use Rattle.context_tree.specs.Private.Leaving.{Extends}

pub same_number : (n m : ℕ) → (n == m) ≡ true → n ≡ m
same_number n m is = grind (arith, nat_tests)

pub before_append : (u a b : List ℕ) → is_before (u ++ a) (u ++ b) ≡ is_before a b
before_append [] a b = refl
before_append (x ∷ u) a b = ap (λ t. cond t (is_before (u ++ a) (u ++ b)) (nat_lt x x)) (eq-eqb x x refl) ∙ before_append u a b

pub before_self : (a : List ℕ) → is_before a a ≡ false
before_self [] = refl
before_self (x ∷ a) = ap (λ t. cond t (is_before a a) (nat_lt x x)) (eq-eqb x x refl) ∙ before_self a

pub before_more : (a : List ℕ) (j : ℕ) (r : List ℕ) → is_before a (a ++ j ∷ r) ≡ true
before_more a j r = ap (λ u. is_before u (a ++ j ∷ r)) (sym (append-nil a)) ∙ before_append a [] (j ∷ r)

-- the smaller of two first numbers
pub before_less : (t j : ℕ) (a b : List ℕ) → t < j → is_before (t ∷ a) (j ∷ b) ≡ true
before_less t j a b lt = grind (arith, nat_tests)

pub before_asym : (a b : List ℕ) → is_before a b ≡ true → is_before b a ≡ true → ⊥
before_asym [] [] one two = absurd (cc)
before_asym [] (y ∷ b) one two = absurd (cc)
before_asym (x ∷ a) [] one two = absurd (cc)
before_asym (x ∷ a) (y ∷ b) one two = by (x == y) (y == x) refl refl one two (before_asym a b)
  where
    by : (s t : Bool) → (x == y) ≡ s → (y == x) ≡ t → cond s (is_before a b) (nat_lt x y) ≡ true → cond t (is_before b a) (nat_lt y x) ≡ true →
        (is_before a b ≡ true → is_before b a ≡ true → ⊥) → ⊥
    by true true is is' one two later = later one two
    by true false is is' one two later = absurd (let same : (y == x) ≡ true = grind (arith, nat_tests, is) in cc)
    by false true is is' one two later = absurd (let same : (x == y) ≡ true = grind (arith, nat_tests, is') in cc)
    by false false is is' one two later = let less : x < y = grind (arith, nat_tests, one) in let more : y < x = grind (arith, nat_tests, two) in absurd (omega (arith, less, more))

pub before_either : (a b : List ℕ) → (is_before a b ≡ true) ⊎ ((a ≡ b) ⊎ (is_before b a ≡ true))
before_either [] [] = inr (inl refl)
before_either [] (y ∷ b) = inl refl
before_either (x ∷ a) [] = inr (inr refl)
before_either (x ∷ a) (y ∷ b) = by (x == y) (y == x) (nat_lt x y) refl refl refl (before_either a b)
  where
    by : (s t l : Bool) → (x == y) ≡ s → (y == x) ≡ t → nat_lt x y ≡ l → (is_before a b ≡ true) ⊎ ((a ≡ b) ⊎ (is_before b a ≡ true)) →
        (cond s (is_before a b) (nat_lt x y) ≡ true) ⊎ (((x ∷ a) ≡ (y ∷ b)) ⊎ (cond t (is_before b a) (nat_lt y x) ≡ true))
    by true true l is is' less (inl h) = inl h
    by true true l is is' less (inr (inl h)) = inr (inl (ap₂ (λ n ns. n ∷ ns) (same_number x y is) h))
    by true true l is is' less (inr (inr h)) = inr (inr h)
    by true false l is is' less later = absurd (let same : (y == x) ≡ true = grind (arith, nat_tests, is) in cc)
    by false true l is is' less later = absurd (let same : (x == y) ≡ true = grind (arith, nat_tests, is') in cc)
    by false false true is is' less later = inl less
    by false false false is is' less later = inr (inr (let more : nat_lt y x ≡ true = grind (arith, nat_tests, is, less) in more))

-- one list begins with the other, or what follows the other does not matter
pub record IsApart (k m : List ℕ) : Type 0 where
  pub free : Extends k m → ⊥
  pub same : (x : List ℕ) → is_before (k ++ x) m ≡ is_before k m

pub extends_or : (k m : List ℕ) → Extends k m ⊎ IsApart k m
extends_or [] m = inl (record { rest = m; is = refl })
extends_or (x ∷ k) [] = inr (record { free = λ e. let is = e.is in absurd (cc); same = λ y. refl })
extends_or (x ∷ k) (y ∷ m) = by (x == y) refl (extends_or k m)
  where
    by : (b : Bool) → (x == y) ≡ b → Extends k m ⊎ IsApart k m → Extends (x ∷ k) (y ∷ m) ⊎ IsApart (x ∷ k) (y ∷ m)
    by true is (inl e) = inl (record { rest = e.rest; is = ap₂ (λ n ns. n ∷ ns) (sym (same_number x y is)) e.is })
    by true is (inr a) = inr (record {
      free = λ e. a.free (record { rest = e.rest; is = let whole = e.is in cc });
      same = λ z. ap (λ t. cond t (is_before (k ++ z) m) (nat_lt x y)) is ∙ a.same z ∙ sym (ap (λ t. cond t (is_before k m) (nat_lt x y)) is);
    })
    by false is either = inr (record {
      free = λ e. let whole = e.is in let one : y ≡ x = cc in let same : (x == y) ≡ true = grind (arith, nat_tests, one) in absurd (cc);
      same = λ z. ap (λ t. cond t (is_before (k ++ z) m) (nat_lt x y)) is ∙ sym (ap (λ t. cond t (is_before k m) (nat_lt x y)) is);
    })

-- a list that is not empty has a last number
pub record HasLast (r : List ℕ) : Type 0 where
  pub front : List ℕ
  pub last : ℕ
  pub is : r ≡ front ++ last ∷ []

pub has_last : (j : ℕ) (r : List ℕ) → HasLast (j ∷ r)
has_last j [] = record { front = []; last = j; is = refl }
has_last j (x ∷ r) = let later = has_last x r in record { front = j ∷ later.front; last = later.last; is = ap (λ ns. j ∷ ns) later.is }

pub before_trans : (a b c : List ℕ) → is_before a b ≡ true → is_before b c ≡ true → is_before a c ≡ true
before_trans [] [] c one two = absurd (cc)
before_trans [] (y ∷ b) [] one two = absurd (cc)
before_trans [] (y ∷ b) (z ∷ c) one two = refl
before_trans (x ∷ a) [] c one two = absurd (cc)
before_trans (x ∷ a) (y ∷ b) [] one two = absurd (cc)
before_trans (x ∷ a) (y ∷ b) (z ∷ c) one two = by (x == y) (y == z) (x == z) refl refl refl one two (before_trans a b c)
  where
    by : (s t u : Bool) → (x == y) ≡ s → (y == z) ≡ t → (x == z) ≡ u → cond s (is_before a b) (nat_lt x y) ≡ true → cond t (is_before b c) (nat_lt y z) ≡ true →
        (is_before a b ≡ true → is_before b c ≡ true → is_before a c ≡ true) → cond u (is_before a c) (nat_lt x z) ≡ true
    by true true true is is' is'' one two later = later one two
    by true true false is is' is'' one two later = absurd (let same : (x == z) ≡ true = grind (arith, nat_tests, is, is') in cc)
    by true false true is is' is'' one two later = absurd (let same : (y == z) ≡ true = grind (arith, nat_tests, is, is'') in cc)
    by true false false is is' is'' one two later = let less : nat_lt x z ≡ true = grind (arith, nat_tests, is, two) in less
    by false true true is is' is'' one two later = absurd (let same : (x == y) ≡ true = grind (arith, nat_tests, is', is'') in cc)
    by false true false is is' is'' one two later = let less : nat_lt x z ≡ true = grind (arith, nat_tests, is', one) in less
    by false false true is is' is'' one two later =
        let under : x < y = grind (arith, nat_tests, one) in let over : y < z = grind (arith, nat_tests, two) in let same : x ≡ z = same_number x z is'' in absurd (omega (arith, under, over, same))
    by false false false is is' is'' one two later = let less : nat_lt x z ≡ true = grind (arith, nat_tests, one, two) in less
