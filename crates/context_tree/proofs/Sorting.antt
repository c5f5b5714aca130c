-- Contexts can be put in the order of the text.
use Rattle.std.proofs.Common.{◌≡◌, ◌≢◌, ℕ, zero, suc, ◌<◌, Bool, true, false, cond, ◌⊎◌, inl, inr, List, [], ◌∷◌, length, get_or, refl, ap, ◌∙◌, arith}
use Rattle.std.specs.List.{All, AllPairs}
use Rattle.std.specs.List.Sorted.{IsPermutation}
use Rattle.std.proofs.lemmas.List.{get_or_default}
use Rattle.std.proofs.lemmas.List.Elements.{All-cons, All-head, All-nil, All-tail, All-weaker}
use Rattle.std.proofs.lemmas.List.Sorted.{All-permutation, IsPermutation-cons, IsPermutation-middle, IsPermutation-refl, IsPermutation-trans}
use Rattle.context_tree.specs.Numbers.{NumbersStandFor}
use Rattle.context_tree.specs.Order.{IsInOrder, is_before, numbers_down_to}
use Rattle.context_tree.proofs.Before.{before_either, before_trans}
use Rattle.context_tree.proofs.Ordering.{one_key}

module _ (known : List (List ℕ)) where
  abbrev key : List ℕ → List ℕ
  key c = numbers_down_to known c

  -- in its place in a list that is in order
  abbrev put_in_order : List ℕ → List (List ℕ) → List (List ℕ)
  put_in_order c [] = c ∷ []
  put_in_order c (d ∷ ds) = cond (is_before (key c) (key d)) (c ∷ d ∷ ds) (d ∷ put_in_order c ds)

  abbrev pub sorted_text : List (List ℕ) → List (List ℕ)
  sorted_text [] = []
  sorted_text (c ∷ cs) = put_in_order c (sorted_text cs)

  put_all : (c : List ℕ) (ds : List (List ℕ)) → IsPermutation (c ∷ ds) (put_in_order c ds)
  put_all c [] = IsPermutation-refl (c ∷ [])
  put_all c (d ∷ ds) = by (is_before (key c) (key d)) (put_all c ds)
    where
      by : (b : Bool) → IsPermutation (c ∷ ds) (put_in_order c ds) → IsPermutation (c ∷ d ∷ ds) (cond b (c ∷ d ∷ ds) (d ∷ put_in_order c ds))
      by true later = IsPermutation-refl (c ∷ d ∷ ds)
      by false later =
          IsPermutation-trans (c ∷ d ∷ ds) (d ∷ c ∷ ds) (d ∷ put_in_order c ds) (IsPermutation-middle (c ∷ []) d ds) (IsPermutation-cons d (c ∷ ds) (put_in_order c ds) later)

  sorted_all : (cs : List (List ℕ)) → IsPermutation cs (sorted_text cs)
  sorted_all [] = IsPermutation-refl []
  sorted_all (c ∷ cs) =
      IsPermutation-trans (c ∷ cs) (c ∷ sorted_text cs) (put_in_order c (sorted_text cs)) (IsPermutation-cons c cs (sorted_text cs) (sorted_all cs)) (put_all c (sorted_text cs))

  abbrev IsSorted : List (List ℕ) → Type 0
  IsSorted [] = Unit {0}
  IsSorted (c ∷ cs) = All (λ d. is_before (key c) (key d) ≡ true) cs × IsSorted cs

  put_sorted : (c : List ℕ) (ds : List (List ℕ)) → All (λ d. key c ≢ key d) ds → IsSorted ds → IsSorted (put_in_order c ds)
  put_sorted c [] apart sorted = (All-nil (λ d. is_before (key c) (key d) ≡ true), tt)
  put_sorted c (d ∷ ds) apart sorted =
      by (is_before (key c) (key d)) refl (put_sorted c ds (All-tail (λ d. key c ≢ key d) d ds apart) sorted.1)
    where
      by : (b : Bool) → is_before (key c) (key d) ≡ b → IsSorted (put_in_order c ds) → IsSorted (cond b (c ∷ d ∷ ds) (d ∷ put_in_order c ds))
      by true is later = (
        All-cons (λ e. is_before (key c) (key e) ≡ true) d ds is
            (All-weaker (λ e. is_before (key d) (key e) ≡ true) (λ e. is_before (key c) (key e) ≡ true) (λ e less. before_trans (key c) (key d) (key e) is less) ds sorted.0),
        sorted,
      )
      by false is later = (
        All-permutation (λ e. is_before (key d) (key e) ≡ true) (c ∷ ds) (put_in_order c ds) (put_all c ds)
            (All-cons (λ e. is_before (key d) (key e) ≡ true) c ds (other (before_either (key c) (key d))) sorted.0),
        later,
      )
        where
          other : (is_before (key c) (key d) ≡ true) ⊎ ((key c ≡ key d) ⊎ (is_before (key d) (key c) ≡ true)) → is_before (key d) (key c) ≡ true
          other (inl less) = absurd (cc)
          other (inr (inl same)) = absurd (All-head (λ d. key c ≢ key d) d ds apart same)
          other (inr (inr more)) = more

  abbrev AreDistinct : List (List ℕ) → Type 0
  AreDistinct [] = Unit {0}
  AreDistinct (c ∷ cs) = All (λ d. key c ≢ key d) cs × AreDistinct cs

  sorted_rises : (cs : List (List ℕ)) → AreDistinct cs → IsSorted (sorted_text cs)
  sorted_rises [] distinct = tt
  sorted_rises (c ∷ cs) distinct =
      put_sorted c (sorted_text cs) (All-permutation (λ d. key c ≢ key d) cs (sorted_text cs) (sorted_all cs) distinct.0) (sorted_rises cs distinct.1)

  all_pairs : (cs : List (List ℕ)) → IsSorted cs → AllPairs (λ c d. is_before (key c) (key d) ≡ true) cs
  all_pairs [] sorted i j e less lt = absurd (omega (arith, lt))
  all_pairs (c ∷ cs) sorted zero zero e less lt = absurd (omega (arith, less))
  all_pairs (c ∷ cs) sorted zero (suc j) e less lt = sorted.0 j e (omega (arith, lt))
  all_pairs (c ∷ cs) sorted (suc i) zero e less lt = absurd (omega (arith, less))
  all_pairs (c ∷ cs) sorted (suc i) (suc j) e less lt = all_pairs cs sorted.1 i j e (omega (arith, less)) (omega (arith, lt))

  distinct_by : (cs : List (List ℕ)) → ((i j : ℕ) (e : List ℕ) → i < j → j < length cs → key (get_or cs i e) ≢ key (get_or cs j e)) → AreDistinct cs
  distinct_by [] apart = tt
  distinct_by (c ∷ cs) apart = (
    λ k d lt same. apart 0 (suc k) d (omega arith) (omega (arith, lt)) same,
    distinct_by cs (λ i j e less lt. apart (suc i) (suc j) e (omega (arith, less)) (omega (arith, lt))),
  )

  pub in_order : (places : List (ℕ × ℕ)) → NumbersStandFor places known → IsInOrder known (sorted_text known)
  in_order places stands = record {
    all = sorted_all known;
    order = all_pairs (sorted_text known) (sorted_rises known (distinct_by known (λ i j e less lt same.
        let one : suc i ≡ suc j =
        one_key places known stands (suc i) (suc j) (omega (arith, less, lt)) (omega (arith, lt))
        (ap (λ c. numbers_down_to known c) (get_or_default known i [] e (omega (arith, less, lt))) ∙ same ∙ ap (λ c. numbers_down_to known c) (get_or_default known j e [] lt))
        in
        absurd (omega (arith, one, less)))));
  }
