-- The routines of the activations of a light past are those of a valid report.
use Rattle.std.proofs.Common.{◌≡◌, ℕ, ◌*◌, ◌<◌, ◌≤◌, ◌^◌, Bool, true, false, cond, List, [], ◌∷◌, length, map, max, Option, Some, None, IfSome, nat_eq, refl, sym, ap, subst, arith}
use Rattle.std.specs.List.{All, AllByRecursion, fold}
use Rattle.std.proofs.lemmas.Bool.Decides.{nat_tests}
use Rattle.std.proofs.lemmas.List.{length-map}
use Rattle.std.proofs.lemmas.List.Sums.{count_by-le-length, length-filter}
use Rattle.std.proofs.lemmas.List.Elements.{All-cons, All-filter, All-head, All-map, All-nil, All-tail, All-weaker, filter_passes, recursion_from_All}
use Rattle.std.proofs.lemmas.Nat.{mul-le}
use Rattle.guest_words.specs.Names.{is_name}
use Rattle.guest_words.specs.declared.endings.Finish.{Finish}
use Rattle.elf_image.specs.Image.{name_beside}
use Rattle.trace_model.specs.declared.event_kinds.Event.{Event}
use Rattle.trace_model.specs.declared.event_kinds.Event.TheVariants.{Step}
use Rattle.trace_model.specs.declared.slow_profile.Done.{Done}
use Rattle.trace_model.specs.Cut.{cut}
use Rattle.trace_model.specs.Laws.{begun_count}
use Rattle.trace_model.specs.Profile.{done, steps}
use Rattle.trace_model.specs.WellFormed.{IsLight, weight}
use Rattle.trace_model.proofs.Pending.{done-pending}
use Rattle.trace_model.proofs.Causes.{done_has_parts}
use Rattle.cost_points.specs.declared.point.Point.{Point}
use Rattle.cost_points.specs.declared.point.Split.{Split}
use Rattle.cost_points.specs.Keys.{IsRising, grouped}
use Rattle.cost_points.specs.Points.{Routine, greatest_of, point_of, points, routine_of}
use Rattle.cost_points.specs.Valid.{IsPoint, IsRoutine, IsSplit}
use Rattle.cost_points.proofs.Bounds.{All-grouped, IsProfile-points, having_sized}
use Rattle.cost_points.proofs.Grouped.{having}
use Rattle.cost_points.proofs.Small.{IsSmall, few_done, small_done}
use Rattle.profile_report.specs.declared.report.ReportVersion.TheVariants.{Two}
use Rattle.profile_report.specs.Fits.{FitsEnd, FitsName, FitsPoint, FitsSplit, is_of_version}
use Rattle.profile_report.specs.Valid.{IsValid, IsValidRoutine}
use Rattle.aprof_top.specs.Report.{named, report_of}
use Rattle.aprof_top.proofs.TraceEntries.{begins, done_all}
use Rattle.aprof_top.proofs.TraceRanges.{HasName, OfSome, beside_named}

-- ---- the numbers of a point
-- The calls of a point, its size and its greatest cost are small.
record IsSmallPoint (p : Point) : Type 0 where
  calls : p.calls ≤ 2 ^ 62
  size : p.size ≤ 2 ^ 62
  most : p.most ≤ 2 ^ 62

fold_within : (most a : ℕ) (xs : List ℕ) → a ≤ most → All (λ x. x ≤ most) xs → fold max a xs ≤ most
fold_within most a [] here all = here
fold_within most a (x ∷ xs) here all =
    let next : x ≤ most = All-head (λ x. x ≤ most) x xs all in
    fold_within most (max a x) xs (omega (arith, here, next)) (All-tail (λ x. x ≤ most) x xs all)

greatest_within : (most : ℕ) (xs : List ℕ) → All (λ x. x ≤ most) xs → greatest_of xs ≤ most
greatest_within most [] all = omega arith
greatest_within most (x ∷ xs) all = fold_within most x xs (All-head (λ x. x ≤ most) x xs all) (All-tail (λ x. x ≤ most) x xs all)

size_small : (size most : ℕ) (members : List Done) → 1 ≤ length members → All (λ d. d.size ≡ size) members → All (IsSmall most) members → size ≤ most
size_small size most [] some sized small = absurd (omega (arith, some))
size_small size most (d ∷ members) some sized small =
    let is : d.size ≡ size = All-head (λ d. d.size ≡ size) d members sized in
    let low = All-head (IsSmall most) d members small in
    omega (arith, is, low.0)

point_small : (most size : ℕ) (members : List Done) → most ≤ 2 ^ 62 → length members ≤ 2 ^ 62 → 1 ≤ length members → All (λ d. d.size ≡ size) members → All (IsSmall most) members → IsSmallPoint (point_of size members)
point_small most size members light few some sized small = record {
  calls = omega (arith, length-map members (λ (d : Done). d.cost), few);
  size = omega (arith, size_small size most members some sized small, light);
  most = omega (
    arith,
    light,
    greatest_within most (map (λ (d : Done). d.cost) members)
        (All-map (λ x. x ≤ most) (λ (d : Done). d.cost) members (All-weaker (IsSmall most) (λ d. d.cost ≤ most) (λ d s. s.1) members small)),
  );
}

-- the members of a key are no more than all
having_few : (key : Done → ℕ) (k : ℕ) (all : List Done) → length (having key k all) ≤ length all
having_few key k all = omega (arith, length-filter (λ d. nat_eq (key d) k) all, count_by-le-length (λ d. nat_eq (key d) k) all)

module _ (most : ℕ) (light : most ≤ 2 ^ 62) where
  points_small : (members : List Done) → length members ≤ 2 ^ 62 → All (IsSmall most) members → All IsSmallPoint (grouped (λ (d : Done). d.size) point_of members)
  points_small members few small =
      All-grouped (λ (d : Done). d.size) point_of IsSmallPoint members (λ k some.
      point_small most k (having (λ (d : Done). d.size) k members) light (omega (arith, few, having_few (λ (d : Done). d.size) k members)) some
      (having_sized k members) (All-filter (λ (d : Done). nat_eq d.size k) (IsSmall most) members small))

  routines_small : (all : List Done) → length all ≤ 2 ^ 62 → All (IsSmall most) all → All (λ r. All IsSmallPoint r.points) (points all)
  routines_small all few small =
      All-grouped (λ (d : Done). d.entry) routine_of (λ r. All IsSmallPoint r.points) all (λ k some.
      points_small (having (λ (d : Done). d.entry) k all) (omega (arith, few, having_few (λ (d : Done). d.entry) k all))
      (All-filter (λ (d : Done). nat_eq d.entry k) (IsSmall most) all small))

-- ---- a point of a report
split_fits : (sizes : ℕ) (o : Option Split) → sizes < 2 ^ 128 → IfSome o (IsSplit sizes) → IfSome o FitsSplit
split_fits sizes None low is = tt
split_fits sizes (Some s) low is = record {
  plain = omega (arith, is.parts, low);
  thread = omega (arith, is.parts, low);
  kernel = omega (arith, is.parts, low);
  bare = omega (arith, is.high, low);
}

point_fits : (p : Point) → IsPoint p → IsSmallPoint p → FitsPoint p
point_fits p is small =
    let costs : p.calls * p.most ≤ 2 ^ 62 * 2 ^ 62 = mul-le p.calls p.most (2 ^ 62) (2 ^ 62) small.calls small.most in
    let sizes : p.size * p.calls ≤ 2 ^ 62 * 2 ^ 62 = mul-le p.size p.calls (2 ^ 62) (2 ^ 62) small.size small.calls in
    record {
      size = omega (arith, small.size);
      calls = omega (arith, small.calls);
      least = omega (arith, is.ordered, small.most);
      most = omega (arith, small.most);
      sum = omega (arith, is.high, costs);
      split = split_fits (p.size * p.calls) p.split (omega (arith, sizes)) is.split;
      costs = is;
    }

both_points : (ps : List Point) → All IsPoint ps → All IsSmallPoint ps → All FitsPoint ps
both_points [] are small = All-nil FitsPoint
both_points (p ∷ ps) are small =
    All-cons FitsPoint p ps (point_fits p (All-head IsPoint p ps are) (All-head IsSmallPoint p ps small))
    (both_points ps (All-tail IsPoint p ps are) (All-tail IsSmallPoint p ps small))

-- ---- a routine of a report
fits_name : (o : Option (List ℕ)) → OfSome (λ name. is_name name ≡ true) o → FitsName o
fits_name None is = tt
fits_name (Some name) is = is

module _ (names : List (ℕ × List ℕ)) (named_so : All HasName names) where
  routine_valid : (r : Routine) → r.entry < 2 ^ 32 → IsRoutine r → All IsSmallPoint r.points → IsValidRoutine Two (named names r)
  routine_valid r low is small = record {
    entry = low;
    name = fits_name (name_beside names r.entry) (beside_named names r.entry named_so);
    some = is.some;
    sizes = is.sizes;
    points = recursion_from_All FitsPoint r.points (both_points r.points is.each small);
    version = recursion_from_All (λ p. is_of_version Two p ≡ true) r.points is.split;
  }

  routines_valid : (rs : List Routine) → All (λ r. r.entry < 2 ^ 32) rs → All IsRoutine rs → All (λ r. All IsSmallPoint r.points) rs → AllByRecursion (IsValidRoutine Two) (map (named names) rs)
  routines_valid [] low are small = tt
  routines_valid (r ∷ rs) low are small = (
    routine_valid r (All-head (λ r. r.entry < 2 ^ 32) r rs low) (All-head IsRoutine r rs are) (All-head (λ r. All IsSmallPoint r.points) r rs small),
    routines_valid rs (All-tail (λ r. r.entry < 2 ^ 32) r rs low) (All-tail IsRoutine r rs are) (All-tail (λ r. All IsSmallPoint r.points) r rs small),
  )

  same_entries : (rs : List Routine) → map (λ q. q.entry) (map (named names) rs) ≡ map (λ r. r.entry) rs
  same_entries [] = refl
  same_entries (r ∷ rs) = ap (λ rest. r.entry ∷ rest) (same_entries rs)

entry_low : (k : ℕ) (members : List Done) → 1 ≤ length members → All (λ d. nat_eq d.entry k ≡ true) members → All (λ d. d.entry < 2 ^ 32) members → k < 2 ^ 32
entry_low k [] some of_entry low = absurd (omega (arith, some))
entry_low k (d ∷ members) some of_entry low =
    let is : nat_eq d.entry k ≡ true = All-head (λ d. nat_eq d.entry k ≡ true) d members of_entry in
    let here : d.entry < 2 ^ 32 = All-head (λ d. d.entry < 2 ^ 32) d members low in
    grind (arith, nat_tests, is, here)

entries_low : (all : List Done) → All (λ d. d.entry < 2 ^ 32) all → All (λ r. r.entry < 2 ^ 32) (points all)
entries_low all low =
    All-grouped (λ (d : Done). d.entry) routine_of (λ r. r.entry < 2 ^ 32) all (λ k some.
    entry_low k (having (λ (d : Done). d.entry) k all) some (filter_passes (λ (d : Done). nat_eq d.entry k) all)
    (All-filter (λ (d : Done). nat_eq d.entry k) (λ d. d.entry < 2 ^ 32) all low))

-- ---- the whole
steps-le-weight : (past : List Event) → steps past ≤ weight past
steps-le-weight [] = omega arith
steps-le-weight (Step tid ∷ past) = omega (arith, steps-le-weight past)
steps-le-weight (_ ∷ past) = omega (arith, steps-le-weight past)

begun-le-weight : (past : List Event) → begun_count past ≤ weight past
begun-le-weight [] = omega arith
begun-le-weight (Step tid ∷ past) = omega (arith, begun-le-weight past)
begun-le-weight (_ ∷ past) = omega (arith, begun-le-weight past)

-- the report of a light past whose numbers are in their ranges
pub report_valid : (names : List (ℕ × List ℕ)) (finish : Finish) (past : List Event)
    → All HasName names → FitsEnd finish → IsLight past → All (λ at. at < 2 ^ 32) (begins past) → IsValid (report_of names finish past)
report_valid names finish past named_so ends light low =
    let all = done past in
    let profile = IsProfile-points all (done_has_parts past) in
    record {
      finish = ends;
      steps = omega (arith, steps-le-weight past, light);
      pending = omega (arith, done-pending past, begun-le-weight past, light);
      entries = subst IsRising (sym (same_entries names named_so (points all))) profile.entries;
      routines = routines_valid names named_so (points all) (entries_low all (done_all (λ at. at < 2 ^ 32) past low)) profile.each
          (routines_small (weight past) (omega (arith, light)) all (omega (arith, few_done past light)) (small_done past));
    }

-- a past that is cut is as light
cut-le-weight : (fits : List Event → Bool) (past : List Event) → weight (cut fits past) ≤ weight past
cut-le-weight fits [] = omega arith
cut-le-weight fits (e ∷ past) = by (fits (e ∷ past)) (cut-le-weight fits past)
  where
    by : (b : Bool) → weight (cut fits past) ≤ weight past → weight (cond b (e ∷ past) (cut fits past)) ≤ weight (e ∷ past)
    by true less = omega arith
    by false less = omega (arith, less)

pub cut_light : (fits : List Event → Bool) (past : List Event) → IsLight past → IsLight (cut fits past)
cut_light fits past light = omega (arith, light, cut-le-weight fits past)
