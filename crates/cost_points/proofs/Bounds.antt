-- What holds of each point and of each routine of a list of activations.
use Rattle.std.proofs.Common.{◌≡◌, ℕ, suc, ◌+◌, ◌*◌, ◌≤◌, List, [], ◌∷◌, length, map, min, max, sum, nat_eq, true, is_some, refl, sym, ap, subst, arith}
use Rattle.std.specs.List.{All, fold}
use Rattle.std.proofs.lemmas.Bool.Decides.{nat_tests}
use Rattle.std.proofs.lemmas.List.{length-map}
use Rattle.std.proofs.lemmas.List.Sums.{sum_by-cons, sum_by-le}
use Rattle.std.proofs.lemmas.List.Elements.{All-nil, All-cons, All-head, All-tail, All-weaker, All-map, All-filter, filter_passes}
use Rattle.trace_model.specs.declared.slow_profile.Done.{Done}
use Rattle.trace_model.specs.Profile.{HasParts}
use Rattle.cost_points.specs.Keys.{insert_rising, rising, grouped}
use Rattle.cost_points.specs.Points.{least_of, greatest_of, split_of, point_of, routine_of, points}
use Rattle.cost_points.specs.Valid.{IsSplit, IsPoint, IsRoutine, IsProfile}
use Rattle.cost_points.proofs.Grouped.{having, having_some, grouped_is}
use Rattle.cost_points.proofs.Tables.{sizes_rise, points_rise}

-- what holds of all that is made of members of which there is one
module _ {A B : Type 0} (key : A → ℕ) (make : ℕ → List A → B) (P : B → Type 0) (all : List A) (each : (k : ℕ) → 1 ≤ length (having key k all) → P (make k (having key k all))) where
  pub All-grouped : All P (grouped key make all)
  All-grouped = subst (All P) (sym (grouped_is key make all))
      (All-map P (λ k. make k (having key k all)) (rising (map key all))
      (All-weaker (λ k. 1 ≤ length (having key k all)) (λ k. P (make k (having key k all))) each (rising (map key all)) (having_some key all)))

  pub some-grouped : 1 ≤ length all → 1 ≤ length (grouped key make all)
  some-grouped some = subst (λ n. 1 ≤ n) (ap length (sym (grouped_is key make all)))
      (subst (λ n. 1 ≤ n) (sym (length-map (rising (map key all)) (λ k. make k (having key k all)))) (some_keys all some))
    where
      some_insert : (x : ℕ) (ks : List ℕ) → 1 ≤ length (insert_rising x ks)
      some_insert x [] = omega arith
      some_insert x (k ∷ ks) = grind (arith, nat_tests)

      some_keys : (xs : List A) → 1 ≤ length xs → 1 ≤ length (rising (map key xs))
      some_keys [] h = absurd (omega arith)
      some_keys (x ∷ xs) h = some_insert (key x) (rising (map key xs))

fold_min : (a : ℕ) (xs : List ℕ) → fold min a xs ≤ a
fold_min a [] = omega arith
fold_min a (x ∷ xs) = omega (arith, fold_min (min a x) xs)

fold_max : (a : ℕ) (xs : List ℕ) → a ≤ fold max a xs
fold_max a [] = omega arith
fold_max a (x ∷ xs) = omega (arith, fold_max (max a x) xs)

fold_min-all : (a : ℕ) (xs : List ℕ) → All (λ x. fold min a xs ≤ x) xs
fold_min-all a [] = All-nil (λ x. a ≤ x)
fold_min-all a (x ∷ xs) = All-cons (λ y. fold min (min a x) xs ≤ y) x xs (omega (arith, fold_min (min a x) xs)) (fold_min-all (min a x) xs)

fold_max-all : (a : ℕ) (xs : List ℕ) → All (λ x. x ≤ fold max a xs) xs
fold_max-all a [] = All-nil (λ x. x ≤ a)
fold_max-all a (x ∷ xs) = All-cons (λ y. y ≤ fold max (max a x) xs) x xs (omega (arith, fold_max (max a x) xs)) (fold_max-all (max a x) xs)

least-all : (xs : List ℕ) → All (λ x. least_of xs ≤ x) xs
least-all [] = All-nil (λ x. 0 ≤ x)
least-all (x ∷ xs) = All-cons (λ y. fold min x xs ≤ y) x xs (fold_min x xs) (fold_min-all x xs)

greatest-all : (xs : List ℕ) → All (λ x. x ≤ greatest_of xs) xs
greatest-all [] = All-nil (λ x. x ≤ 0)
greatest-all (x ∷ xs) = All-cons (λ y. y ≤ fold max x xs) x xs (fold_max x xs) (fold_max-all x xs)

least-greatest : (xs : List ℕ) → least_of xs ≤ greatest_of xs
least-greatest [] = omega arith
least-greatest (x ∷ xs) = omega (arith, fold_min x xs, fold_max x xs)

low_sum : (m : ℕ) (xs : List ℕ) → All (λ x. m ≤ x) xs → length xs * m ≤ sum xs
low_sum m [] all = grind arith
low_sum m (x ∷ xs) all =
    let here : m ≤ x = All-head (λ y. m ≤ y) x xs all in
    let rest : length xs * m ≤ sum xs = low_sum m xs (All-tail (λ y. m ≤ y) x xs all) in
    let whole : sum (x ∷ xs) ≡ x + sum xs = sum_by-cons (λ y. y) x xs in
    let times : suc (length xs) * m ≡ m + length xs * m = grind arith in
    omega (arith, here, rest, whole, times)

abbrev costs_of : List Done → List ℕ
costs_of members = map (λ d. d.cost) members

-- the parts of activations of one size
IsSplit-of : (size : ℕ) (members : List Done) → All (λ d. d.size ≡ size) members → All HasParts members → IsSplit (size * length members) (split_of members)
IsSplit-of size [] sized fits = record { parts = grind arith; low = omega arith; high = omega arith }
IsSplit-of size (d ∷ members) sized fits =
    let here : d.size ≡ size = All-head (λ m. m.size ≡ size) d members sized in
    let fit : HasParts d = All-head HasParts d members fits in
    let rest : IsSplit (size * length members) (split_of members) = IsSplit-of size members (All-tail (λ m. m.size ≡ size) d members sized) (All-tail HasParts d members fits) in
    let whole : size * suc (length members) ≡ size + size * length members = grind arith in
    let plain = sum_by-cons (λ (m : Done). m.plain) d members in
    let thread = sum_by-cons (λ (m : Done). m.thread) d members in
    let kernel = sum_by-cons (λ (m : Done). m.kernel) d members in
    let bare = sum_by-cons (λ (m : Done). m.bare) d members in
    record {
      parts = omega (arith, here, whole, plain, thread, kernel, fit.parts, rest.parts);
      low = omega (arith, plain, bare, fit.low, rest.low);
      high = omega (arith, here, whole, bare, fit.high, rest.high);
    }

pub IsPoint-of : (size : ℕ) (members : List Done) → 1 ≤ length members → All (λ d. d.size ≡ size) members → All HasParts members → IsPoint (point_of size members)
IsPoint-of size members some sized fits = record {
  some = omega (arith, length-map members (λ (d : Done). d.cost));
  ordered = least-greatest (costs_of members);
  low = low_sum (least_of (costs_of members)) (costs_of members) (least-all (costs_of members));
  high = sum_by-le (λ x. x) (greatest_of (costs_of members)) (costs_of members) (greatest-all (costs_of members));
  split = subst (λ n. IsSplit (size * n) (split_of members)) (sym (length-map members (λ (d : Done). d.cost))) (IsSplit-of size members sized fits);
}

-- the members of a size have it
pub having_sized : (size : ℕ) (members : List Done) → All (λ d. d.size ≡ size) (having (λ (d : Done). d.size) size members)
having_sized size members =
    All-weaker (λ (d : Done). nat_eq d.size size ≡ true) (λ d. d.size ≡ size) (λ d h. grind (arith, nat_tests)) (having (λ (d : Done). d.size) size members)
    (filter_passes (λ (d : Done). nat_eq d.size size) members)

pub IsRoutine-of : (entry : ℕ) (members : List Done) → 1 ≤ length members → All HasParts members → IsRoutine (routine_of entry members)
IsRoutine-of entry members some fits =
    let point : (k : ℕ) → 1 ≤ length (having (λ (d : Done). d.size) k members) → IsPoint (point_of k (having (λ (d : Done). d.size) k members)) =
    λ k h. IsPoint-of k (having (λ (d : Done). d.size) k members) h (having_sized k members) (All-filter (λ (d : Done). nat_eq d.size k) HasParts members fits) in
    record {
      some = some-grouped (λ (d : Done). d.size) point_of IsPoint members point some;
      sizes = sizes_rise members;
      each = All-grouped (λ (d : Done). d.size) point_of IsPoint members point;
      split = All-grouped (λ (d : Done). d.size) point_of (λ p. is_some p.split ≡ true) members (λ k h. refl);
    }

-- the routines of activations whose parts fit are in order, and each is one of the kind
pub IsProfile-points : (all : List Done) → All HasParts all → IsProfile (points all)
IsProfile-points all fits = record {
  entries = points_rise all;
  each = All-grouped (λ (d : Done). d.entry) routine_of IsRoutine all (λ k h. IsRoutine-of k (having (λ (d : Done). d.entry) k all) h (All-filter (λ (d : Done). nat_eq d.entry k) HasParts all fits));
}
