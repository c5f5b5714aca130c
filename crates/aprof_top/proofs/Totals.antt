-- The totals over the points of ended activations are those of the activations.
use Rattle.std.proofs.Common.{◌≡◌, ℕ, suc, ◌+◌, ◌*◌, ◌<◌, ◌≤◌, ◌^◌, ◌≢◌, ◌==◌, if◌then◌else◌, List, [], ◌∷◌, length, map, take, get_or, inl, inr, refl, sym, ap, ap₂, ◌∙◌, arith}
use Rattle.std.specs.List.{All, sum_by}
use Rattle.std.proofs.lemmas.Bool.Decides.{nat_tests, eqb_tells}
use Rattle.std.proofs.lemmas.List.{length-map}
use Rattle.std.proofs.lemmas.List.Sums.{sum_by-cons, sum_by-le, sum_by_more, sum_by_more_le, sum-map}
use Rattle.std.proofs.lemmas.List.Elements.{All-nil, All-cons, All-head, All-tail, All-weaker}
use Rattle.trace_file.specs.TraceText.{Names}
use Rattle.trace_model.specs.declared.event_kinds.Event.{Event}
use Rattle.trace_model.specs.declared.slow_profile.Done.{Done}
use Rattle.trace_model.specs.Profile.{done}
use Rattle.trace_model.specs.WellFormed.{IsLight, weight}
use Rattle.cost_points.proofs.Small.{IsSmall, few_done, small_done}
use Rattle.cost_points.specs.declared.point.Point.{Point}
use Rattle.cost_points.specs.Keys.{insert_rising, rising, IsRising, grouped}
use Rattle.cost_points.specs.Points.{point_of, routine_of, points}
use Rattle.cost_points.proofs.Rising.{order, insert_below, insert_same, insert_above, IsRising-above, IsRising-tail, IsRising-rising}
use Rattle.cost_points.proofs.Grouped.{having, having_none, grouped_is}
use Rattle.profile_report.specs.Reported.{ReportedRoutine}
use Rattle.aprof_top.specs.Report.{named}
use Rattle.aprof_top.specs.Summary.{activations, costs, sizes, total}
use Rattle.aprof_top.specs.Private.Totals.{FitsTotals}

-- a number at one key, and 0 elsewhere
abbrev only : ℕ → ℕ → ℕ → ℕ
only n x k = if x == k then n else 0

-- keys above it are not that key
only_above : (n x : ℕ) (ks : List ℕ) → All (λ k. x < k) ks → sum_by (only n x) ks ≡ 0
only_above n x [] above = refl
only_above n x (k ∷ ks) above =
    let here : x < k = All-head (λ k. x < k) k ks above in
    let rest : sum_by (only n x) ks ≡ 0 = only_above n x ks (All-tail (λ k. x < k) k ks above) in
    let none : only n x k ≡ 0 = grind (arith, nat_tests) in
    sum_by-cons (only n x) k ks ∙ ap₂ (λ a b. a + b) none rest

all_above : (x y : ℕ) (ys : List ℕ) → x < y → IsRising (y ∷ ys) → All (λ k. x < k) (y ∷ ys)
all_above x y ys h up = All-cons (λ z. x < z) y ys h (All-weaker (λ z. y < z) (λ z. x < z) (λ z p. omega arith) ys (IsRising-above y ys up))

-- a key that is among rising keys is met once
only_once : (n x : ℕ) (ks : List ℕ) → IsRising ks → sum_by (only n x) (insert_rising x ks) ≡ n
only_once n x [] up =
    let here : only n x x ≡ n = grind (arith, nat_tests) in
    sum_by-cons (only n x) x [] ∙ ap₂ (λ a b. a + b) here refl ∙ omega arith
only_once n x (y ∷ ys) up = elim (order x y) [
  | inl h ↦
      let here : only n x x ≡ n = grind (arith, nat_tests) in
      let rest : sum_by (only n x) (y ∷ ys) ≡ 0 = only_above n x (y ∷ ys) (all_above x y ys h up) in
      ap (sum_by (only n x)) (insert_below x y ys h) ∙ sum_by-cons (only n x) x (y ∷ ys) ∙ omega (arith, here, rest)
  | inr (inl h) ↦
      let here : only n x y ≡ n = grind (arith, nat_tests) in
      let rest : sum_by (only n x) ys ≡ 0 = only_above n x ys (rw h (IsRising-above y ys up)) in
      ap (sum_by (only n x)) (insert_same x y ys h) ∙ sum_by-cons (only n x) y ys ∙ omega (arith, here, rest)
  | inr (inr h) ↦
      let here : only n x y ≡ 0 = grind (arith, nat_tests) in
      let rest : sum_by (only n x) (insert_rising x ys) ≡ n = only_once n x ys (IsRising-tail y ys up) in
      ap (sum_by (only n x)) (insert_above x y ys h) ∙ sum_by-cons (only n x) y (insert_rising x ys) ∙ omega (arith, here, rest)
]

-- a key whose number is 0 where it is new adds nothing
absorbed : (f : ℕ → ℕ) (x : ℕ) (ks : List ℕ) → IsRising ks → (All (λ k. k ≢ x) ks → f x ≡ 0) → sum_by f (insert_rising x ks) ≡ sum_by f ks
absorbed f x [] up none =
    let here : f x ≡ 0 = none (All-nil (λ k. k ≢ x)) in
    sum_by-cons f x [] ∙ omega (arith, here)
absorbed f x (y ∷ ys) up none = elim (order x y) [
  | inl h ↦
      let here : f x ≡ 0 = none (All-weaker (λ k. x < k) (λ k. k ≢ x) (λ k p e. omega arith) (y ∷ ys) (all_above x y ys h up)) in
      ap (sum_by f) (insert_below x y ys h) ∙ sum_by-cons f x (y ∷ ys) ∙ omega (arith, here)
  | inr (inl h) ↦ ap (sum_by f) (insert_same x y ys h)
  | inr (inr h) ↦
      let rest : sum_by f (insert_rising x ys) ≡ sum_by f ys =
      absorbed f x ys (IsRising-tail y ys up) (λ others. none (All-cons (λ k. k ≢ x) y ys (λ e. omega arith) others)) in
      ap (sum_by f) (insert_above x y ys h) ∙ sum_by-cons f y (insert_rising x ys) ∙ ap (λ b. f y + b) rest ∙ sym (sum_by-cons f y ys)
]

sum_by-same : {A : Type 0} (f g : A → ℕ) (xs : List A) → ((x : A) → f x ≡ g x) → sum_by f xs ≡ sum_by g xs
sum_by-same f g [] same = refl
sum_by-same f g (x ∷ xs) same = sum_by-cons f x xs ∙ ap₂ (λ a b. a + b) (same x) (sum_by-same f g xs same) ∙ sym (sum_by-cons g x xs)

sum_by-plus : {A : Type 0} (f g : A → ℕ) (xs : List A) → sum_by (λ x. f x + g x) xs ≡ sum_by f xs + sum_by g xs
sum_by-plus f g [] = refl
sum_by-plus f g (x ∷ xs) =
    let rest = sum_by-plus f g xs in
    omega (arith, rest, sum_by-cons f x xs, sum_by-cons g x xs, sum_by-cons (λ x. f x + g x) x xs)

sum_by-map : {A B : Type 0} (f : B → ℕ) (g : A → B) (xs : List A) → sum_by f (map g xs) ≡ sum_by (λ x. f (g x)) xs
sum_by-map f g [] = refl
sum_by-map f g (x ∷ xs) = sum_by-cons f (g x) (map g xs) ∙ ap (λ b. f (g x) + b) (sum_by-map f g xs) ∙ sym (sum_by-cons (λ x. f (g x)) x xs)

-- a number of each member, summed up by the groups of a key
module _ {A : Type 0} (key : A → ℕ) (number : A → ℕ) where
  abbrev sum_having : List A → ℕ → ℕ
  sum_having all k = sum_by number (having key k all)

  one_more : (a : A) (all : List A) (k : ℕ) → sum_having (a ∷ all) k ≡ only (number a) (key a) k + sum_having all k
  one_more a all k = grind (arith, nat_tests, sum_by-cons number a (having key k all))

  -- the sum over the keys of the sums over their members
  sum_keys : (all : List A) → sum_by (sum_having all) (rising (map key all)) ≡ sum_by number all
  sum_keys [] = refl
  sum_keys (a ∷ all) =
      let x = key a in
      let ks = rising (map key all) in
      let up : IsRising ks = IsRising-rising (map key all) in
      sum_by-same (sum_having (a ∷ all)) (λ k. only (number a) x k + sum_having all k) (insert_rising x ks) (one_more a all)
      ∙ sum_by-plus (only (number a) x) (sum_having all) (insert_rising x ks)
      ∙ ap₂ (λ m n. m + n) (only_once (number a) x ks up)
      (absorbed (sum_having all) x ks up (λ none. ap (sum_by number) (having_none key all x none)) ∙ sum_keys all)
      ∙ sym (sum_by-cons number a all)

  -- the sum over groups, where that of each group is the sum over its members
  pub sum-grouped : {B : Type 0} (make : ℕ → List A → B) (of : B → ℕ) (all : List A) → ((k : ℕ) → of (make k (having key k all)) ≡ sum_having all k) → sum_by of (grouped key make all) ≡ sum_by number all
  sum-grouped make of all each =
      ap (sum_by of) (grouped_is key make all)
      ∙ sum_by-map of (λ k. make k (having key k all)) (rising (map key all))
      ∙ sum_by-same (λ k. of (make k (having key k all))) (sum_having all) (rising (map key all)) each
      ∙ sum_keys all

-- a total of the points is a sum over the activations, where it is so for the activations of one size
module _ (names : Names) (of : Point → ℕ) (number : Done → ℕ) (each : (k : ℕ) (members : List Done) → of (point_of k (having (λ d. d.size) k members)) ≡ sum_by number (having (λ d. d.size) k members)) where
  pub total-points : (all : List Done) → total of (map (named names) (points all)) ≡ sum_by number all
  total-points all =
      sum_by-map (λ r. sum_by of r.points) (named names) (points all)
      ∙ sum-grouped (λ (d : Done). d.entry) number routine_of (λ r. sum_by of r.points) all (λ k.
      let members = having (λ (d : Done). d.entry) k all in
      sum-grouped (λ (d : Done). d.size) number point_of of members (λ size. each size members))

sum_by-ones : {A : Type 0} (xs : List A) → sum_by (λ x. 1) xs ≡ length xs
sum_by-ones [] = refl
sum_by-ones (x ∷ xs) = let rest = sum_by-ones xs in omega (arith, rest, sum_by-cons (λ y. 1) x xs)

-- the members of one size
sizes-having : (k : ℕ) (members : List Done) → sum_by (λ d. d.size) (having (λ d. d.size) k members) ≡ k * length (having (λ d. d.size) k members)
sizes-having k [] = grind arith
sizes-having k (d ∷ members) =
    let here = having (λ (d : Done). d.size) k members in
    let rest : sum_by (λ (d : Done). d.size) here ≡ k * length here = sizes-having k members in
    elim (eqb_tells d.size k) [
      | inl p ↦
          let more : k + k * length here ≡ k * suc (length here) = grind arith in
          rw p.0 (sum_by-cons (λ (d : Done). d.size) d here ∙ ap₂ (λ a b. a + b) p.1 rest ∙ more)
      | inr p ↦ rw p.0 rest
    ]

-- as many activations are reported as ended
pub activations-points : (names : Names) (all : List Done) → activations (map (named names) (points all)) ≡ length all
activations-points names all =
    total-points names (λ p. p.calls) (λ d. 1) (λ k members.
    let here = having (λ (d : Done). d.size) k members in
    length-map here (λ (d : Done). d.cost) ∙ sym (sum_by-ones here)) all
    ∙ sum_by-ones all

-- the sizes add up to those of the activations
pub sizes-points : (names : Names) (all : List Done) → sizes (map (named names) (points all)) ≡ sum_by (λ d. d.size) all
sizes-points names all =
    total-points names (λ p. p.size * p.calls) (λ d. d.size) (λ k members.
    let here = having (λ (d : Done). d.size) k members in
    ap (λ n. k * n) (length-map here (λ (d : Done). d.cost)) ∙ sym (sizes-having k members)) all

-- the costs add up to those of the activations
pub costs-points : (names : Names) (all : List Done) → costs (map (named names) (points all)) ≡ sum_by (λ d. d.cost) all
costs-points names all =
    total-points names (λ p. p.sum) (λ d. d.cost) (λ k members. sum-map (λ (d : Done). d.cost) (having (λ d. d.size) k members)) all

-- The totals of fewer than 2^63 activations fit.
pub FitsTotals-points : (names : Names) (all : List Done) → length all < 2 ^ 63 → All (λ d. d.size < 2 ^ 64) all → All (λ d. d.cost < 2 ^ 64) all → FitsTotals (map (named names) (points all))
FitsTotals-points names all few small cheap =
    let size_bound : sum_by (λ (d : Done). d.size) all ≤ length all * 18446744073709551615 =
    sum_by-le (λ (d : Done). d.size) 18446744073709551615 all (All-weaker (λ d. d.size < 2 ^ 64) (λ d. d.size ≤ 18446744073709551615) (λ d h. omega arith) all small) in
    let cost_bound : sum_by (λ (d : Done). d.cost) all ≤ length all * 18446744073709551615 =
    sum_by-le (λ (d : Done). d.cost) 18446744073709551615 all (All-weaker (λ d. d.cost < 2 ^ 64) (λ d. d.cost ≤ 18446744073709551615) (λ d h. omega arith) all cheap) in
    record {
      activations = rw (activations-points names all) (omega arith);
      sizes = rw (sizes-points names all) (omega (arith, size_bound));
      costs = rw (costs-points names all) (omega (arith, cost_bound));
    }

-- So those of a light past fit.
pub FitsTotals-past : (names : Names) (past : List Event) → IsLight past → FitsTotals (map (named names) (points (done past)))
FitsTotals-past names past light =
    let small = small_done past in
    FitsTotals-points names (done past) (omega (arith, few_done past light))
    (All-weaker (IsSmall (weight past)) (λ d. d.size < 2 ^ 64) (λ d s. omega (arith, s.0, light)) (done past) small)
    (All-weaker (IsSmall (weight past)) (λ d. d.cost < 2 ^ 64) (λ d s. omega (arith, s.1, light)) (done past) small)

-- the points of one routine more
module _ (of : Point → ℕ) (routines : List ReportedRoutine) (i : ℕ) (r : ReportedRoutine) (ps : List Point) (inside : i < length routines) (here : r ≡ get_or routines i r) (are : ps ≡ r.points) where
  next_is : sum_by of (get_or routines i r).points ≡ sum_by of ps
  next_is = ap (λ (r : ReportedRoutine). sum_by of r.points) (sym here) ∙ sym (ap (sum_by of) are)

  pub total_more : (before after : ℕ) → before ≡ total of (take i routines) → after ≡ before + sum_by of ps → after ≡ total of (take (i + 1) routines)
  total_more before after so_far more =
      let step = sum_by_more (λ (r : ReportedRoutine). sum_by of r.points) routines i r inside in
      omega (arith, step, next_is, so_far, more)

  pub total_fits : (before limit : ℕ) → before ≡ total of (take i routines) → total of routines < limit → before + sum_by of ps < limit
  total_fits before limit so_far fits =
      let step = sum_by_more_le (λ (r : ReportedRoutine). sum_by of r.points) routines i r inside in
      omega (arith, step, next_is, so_far, fits)
