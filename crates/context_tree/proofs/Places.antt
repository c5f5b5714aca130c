-- The place of each element of a list in the order of them all.
use Rattle.std.proofs.Common.{◌≡◌, ◌∙◌, ℕ, zero, suc, ◌+◌, ◌<◌, ◌≤◌, Bool, true, false, List, [], ◌∷◌, refl, sym, ap, ap₂, subst, length, arith}
use Rattle.std.specs.Prelude.{nat_lt, ◌==◌, cond, map, slice_index_or}
use Rattle.std.specs.List.{AllPairs, Contains, count_by, filter, range_with_len}
use Rattle.std.specs.List.Sorted.{IsPermutation}
use Rattle.std.proofs.lemmas.Bool.Decides.{nat_tests}
use Rattle.std.proofs.lemmas.List.{get_or_default}
use Rattle.std.proofs.lemmas.List.Sorted.{Contains-permutation, IsPermutation-sym, length_permutation, sum_by-IsPermutation}
use Rattle.std.proofs.lemmas.List.Sums.{sum_by-cons}

-- the first element that passes, where one does
first_passing : {X : Type 0} (p : X → Bool) (xs : List X) (d : X) (k : ℕ) → k < length xs → p (slice_index_or xs k d) ≡ true →
    (p (slice_index_or (filter p xs) 0 d) ≡ true) × Contains xs (slice_index_or (filter p xs) 0 d)
first_passing p [] d k within passes = absurd (omega (arith, within))
first_passing {X} p (x ∷ xs) d k within passes = by (p x) refl (λ n less has. first_passing p xs d n less has)
  where
    Found : List X → Type 0
    Found ys = (p (slice_index_or (filter p ys) 0 d) ≡ true) × Contains ys (slice_index_or (filter p ys) 0 d)

    by : (b : Bool) → p x ≡ b → ((n : ℕ) → n < length xs → p (slice_index_or xs n d) ≡ true → Found xs) → Found (x ∷ xs)
    by true is rest = rw is (is, (0, omega arith, refl))
    by false is rest = rw is (later k within passes)
      where
        later : (n : ℕ) → n < length (x ∷ xs) → p (slice_index_or (x ∷ xs) n d) ≡ true → (p (slice_index_or (filter p xs) 0 d) ≡ true) × Contains (x ∷ xs) (slice_index_or (filter p xs) 0 d)
        later zero less has = absurd (let no = sym is ∙ has in cc)
        later (suc n) less has =
            let found = rest n (omega (arith, less)) has in
            (found.0, (suc found.1.0, omega (arith, found.1.1), found.1.2))

-- the values at each place make the list
at_each : {X : Type 0} (f : ℕ → X) (d : X) (xs : List X) (a : ℕ) → ((i : ℕ) → i < length xs → f (a + i) ≡ slice_index_or xs i d) → map f (range_with_len a (length xs)) ≡ xs
at_each f d [] a each = refl
at_each f d (x ∷ xs) a each =
    ap₂ (λ y ys. y ∷ ys) (ap f (sym (plain a)) ∙ each 0 (omega arith))
    (at_each f d xs (a + 1) (λ i less. ap f (moved a i) ∙ each (suc i) (omega (arith, less))))
  where
    plain : (n : ℕ) → n + 0 ≡ n
    plain n = omega arith

    moved : (n i : ℕ) → n + 1 + i ≡ n + suc i
    moved n i = omega arith

module _ {X : Type 0} (before : X → X → Bool) (one_way : (x y : X) → before x y ≡ true → before y x ≡ false) where
  not_itself : (x : X) → before x x ≡ false
  not_itself x = by (before x x) refl
    where
      by : (b : Bool) → before x x ≡ b → before x x ≡ false
      by true is = one_way x x is
      by false is = is

  -- where the first `k` of a list come before, so many do
  count_first : (c : X) (xs : List X) (k : ℕ) → ((j : ℕ) (d : X) → j < length xs → before (slice_index_or xs j d) c ≡ nat_lt j k) → k ≤ length xs → count_by (λ d. before d c) xs ≡ k
  count_first c [] k each le = omega (arith, le)
  count_first c (x ∷ xs) zero each le =
      let first : before x c ≡ nat_lt 0 0 = each 0 x (omega arith) in
      let rest = count_first c xs 0 (λ j d less. each (suc j) d (omega (arith, less)) ∙ none (suc j) ∙ sym (none j)) (omega arith) in
      sum_by-cons (λ d. cond (before d c) 1 0) x xs ∙ rw (first ∙ none 0) (omega (arith, rest))
    where
      none : (j : ℕ) → nat_lt j 0 ≡ false
      none j = grind (arith, nat_tests)
  count_first c (x ∷ xs) (suc k) each le =
      let first : before x c ≡ nat_lt 0 (suc k) = each 0 x (omega arith) in
      let rest = count_first c xs k (λ j d less. each (suc j) d (omega (arith, less)) ∙ shifted j k) (omega (arith, le)) in
      sum_by-cons (λ d. cond (before d c) 1 0) x xs ∙ rw (first ∙ some k) (omega (arith, rest))
    where
      some : (n : ℕ) → nat_lt 0 (suc n) ≡ true
      some n = grind (arith, nat_tests)

      shifted : (j n : ℕ) → nat_lt (suc j) (suc n) ≡ nat_lt j n
      shifted j n = grind (arith, nat_tests)

  -- an element of a list in order comes behind as many as stand in front of it
  module _ (all ordered : List X) (same : IsPermutation all ordered) (order : AllPairs (λ x y. before x y ≡ true) ordered) where
    stands : (i j : ℕ) (d : X) → i < length ordered → j < length ordered → before (slice_index_or ordered j d) (slice_index_or ordered i d) ≡ nat_lt j i
    stands i j d inside within = by (nat_lt j i) (nat_lt i j) refl refl
      where
        by : (less more : Bool) → nat_lt j i ≡ less → nat_lt i j ≡ more → before (slice_index_or ordered j d) (slice_index_or ordered i d) ≡ less
        by true more l m = order j i d (grind (arith, nat_tests, l)) inside
        by false true l m = one_way (slice_index_or ordered i d) (slice_index_or ordered j d) (order i j d (grind (arith, nat_tests, m)) within)
        by false false l m =
            let is : i ≡ j = grind (arith, nat_tests, l, m) in
            subst (λ k. before (slice_index_or ordered k d) (slice_index_or ordered i d) ≡ false) is (not_itself (slice_index_or ordered i d))

    abbrev place : X → ℕ
    place c = count_by (λ x. before x c) all

    place_of : (i : ℕ) (d : X) → i < length ordered → place (slice_index_or ordered i d) ≡ i
    place_of i d inside =
        let c = slice_index_or ordered i d in
        sym (sum_by-IsPermutation (λ x. cond (before x c) 1 0) all ordered same)
        ∙ count_first c ordered i (λ j e within. ap (λ x. before x c) (get_or_default ordered j e d within) ∙ stands i j d inside within) (omega (arith, inside))

    -- who has the place is the element there
    has_place : (c : X) (i : ℕ) → Contains all c → place c ≡ i → (d : X) → (i < length ordered) × (c ≡ slice_index_or ordered i d)
    has_place c i there is d =
        let (k, within, at) = Contains-permutation all ordered c same there in
        let here : slice_index_or ordered k d ≡ c = get_or_default ordered k d c within ∙ at in
        let same_place : k ≡ i = sym (place_of k d within) ∙ ap place here ∙ is in
        (subst (λ n. n < length ordered) same_place within, sym here ∙ ap (λ n. slice_index_or ordered n d) same_place)

    -- the first that has it
    first_with : (i : ℕ) (d : X) → i < length ordered → slice_index_or (filter (λ c. place c == i) all) 0 d ≡ slice_index_or ordered i d
    first_with i d inside =
        let c = slice_index_or ordered i d in
        let (k, within, at) = Contains-permutation ordered all c (IsPermutation-sym all ordered same) (i, inside, get_or_default ordered i c d inside) in
        let here : slice_index_or all k d ≡ c = get_or_default all k d c within ∙ at in
        let found = first_passing (λ x. place x == i) all d k within (ap (λ x. place x == i) here ∙ is_same (place c) i (place_of i d inside)) in
        (has_place (slice_index_or (filter (λ x. place x == i) all) 0 d) i found.1 (equal _ i found.0) d).1
      where
        is_same : (m n : ℕ) → m ≡ n → (m == n) ≡ true
        is_same m n is = grind (arith, nat_tests, is)

        equal : (m n : ℕ) → (m == n) ≡ true → m ≡ n
        equal m n is = grind (arith, nat_tests, is)

    -- so each element stands at its place
    pub in_places : (d : X) → map (λ i. slice_index_or (filter (λ c. place c == i) all) 0 d) (range_with_len 0 (length all)) ≡ ordered
    in_places d =
        ap (λ n. map (λ i. slice_index_or (filter (λ c. place c == i) all) 0 d) (range_with_len 0 n)) (sym (length_permutation all ordered same))
        ∙ at_each (λ i. slice_index_or (filter (λ c. place c == i) all) 0 d) d ordered 0 (λ i inside. ap (λ n. slice_index_or (filter (λ c. place c == n) all) 0 d) (none i) ∙ first_with i d inside)
      where
        none : (i : ℕ) → 0 + i ≡ i
        none i = omega arith
