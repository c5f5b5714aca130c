-- A point takes in another of its size: the points of two lists of activations are those of both together.
use Rattle.std.proofs.Common.{◌≡◌, ℕ, ◌+◌, ◌*◌, ◌<◌, ◌≤◌, ◌^◌, List, [], ◌∷◌, ◌++◌, length, map, min, max, sum, Result, Ok, Err, OnOk, true, is_some, Option, Some, None, refl, sym, ap, ap₂, ◌∙◌, subst, arith, length-append}
use Rattle.std.specs.Prelude.{IfSome}
use Rattle.std.specs.List.{All, fold}
use Rattle.std.proofs.lemmas.List.{length-map, map-append}
use Rattle.std.proofs.lemmas.List.Elements.{All-nil, All-cons, All-weaker}
use Rattle.std.proofs.lemmas.List.Sums.{fold-append, sum_by-append}
use Rattle.std.proofs.lemmas.Nat.{mul-le}
use Rattle.trace_model.specs.declared.slow_profile.Done.{Done}
use Rattle.trace_model.specs.Profile.{HasParts}
use Rattle.cost_points.specs.declared.point.Point.{Point}
use Rattle.cost_points.specs.declared.point.Split.{Split}
use Rattle.cost_points.specs.Contents.{IsCounted, TableContents, contents_of}
use Rattle.cost_points.specs.Keys.{IsRising, grouped, put}
use Rattle.cost_points.specs.Merging.{ArePointOf, merged, point_added, split_both, split_sum, with_point}
use Rattle.cost_points.specs.Points.{Routine, greatest_of, least_of, point_of, points, routine_of, split_of}
use Rattle.cost_points.specs.Search.{HasRoom, HasSplitRoom}
use Rattle.cost_points.specs.Valid.{IsPoint, IsProfile, IsRoutine, IsSplit}
use Rattle.cost_points.proofs.Put.{grouped_put, keys_put, length-put, put-all, put-both, some-put}
use Rattle.cost_points.proofs.Bounds.{IsPoint-of}
use Rattle.cost_points.proofs.Rising.{IsRising-insert}

-- ---- the least and the greatest of two lists
min-fold : (a b : ℕ) (xs : List ℕ) → fold min (min a b) xs ≡ min a (fold min b xs)
min-fold a b [] = refl
min-fold a b (x ∷ xs) = ap (λ m. fold min m xs) (omega arith) ∙ min-fold a (min b x) xs

max-fold : (a b : ℕ) (xs : List ℕ) → fold max (max a b) xs ≡ max a (fold max b xs)
max-fold a b [] = refl
max-fold a b (x ∷ xs) = ap (λ m. fold max m xs) (omega arith) ∙ max-fold a (max b x) xs

least-append : (xs ys : List ℕ) → 1 ≤ length xs → 1 ≤ length ys → min (least_of xs) (least_of ys) ≡ least_of (xs ++ ys)
least-append [] ys some more = absurd (omega (arith, some))
least-append (x ∷ xs) [] some more = absurd (omega (arith, more))
least-append (x ∷ xs) (y ∷ ys) some more = sym (fold-append min x xs (y ∷ ys) ∙ min-fold (fold min x xs) y ys)

greatest-append : (xs ys : List ℕ) → 1 ≤ length xs → 1 ≤ length ys → max (greatest_of xs) (greatest_of ys) ≡ greatest_of (xs ++ ys)
greatest-append [] ys some more = absurd (omega (arith, some))
greatest-append (x ∷ xs) [] some more = absurd (omega (arith, more))
greatest-append (x ∷ xs) (y ∷ ys) some more = sym (fold-append max x xs (y ∷ ys) ∙ max-fold (fold max x xs) y ys)

-- ---- the points of two lists of activations
abbrev costs_of : List Done → List ℕ
costs_of members = map (λ d. d.cost) members

some-costs : (members : List Done) → 1 ≤ length members → 1 ≤ length (costs_of members)
some-costs members some = omega (arith, some, length-map members (λ (d : Done). d.cost))

split-append : (ms more : List Done) → split_sum (split_of ms) (split_of more) ≡ split_of (ms ++ more)
split-append ms more =
    let plain = sym (sum_by-append (λ (d : Done). d.plain) ms more) in
    let thread = sym (sum_by-append (λ (d : Done). d.thread) ms more) in
    let kernel = sym (sum_by-append (λ (d : Done). d.kernel) ms more) in
    let bare = sym (sum_by-append (λ (d : Done). d.bare) ms more) in
    ap (λ n. record { plain = n; thread = (split_of ms).thread + (split_of more).thread; kernel = (split_of ms).kernel + (split_of more).kernel; bare = (split_of ms).bare + (split_of more).bare }) plain
    ∙ ap (λ n. record { plain = (split_of (ms ++ more)).plain; thread = n; kernel = (split_of ms).kernel + (split_of more).kernel; bare = (split_of ms).bare + (split_of more).bare }) thread
    ∙ ap (λ n. record { plain = (split_of (ms ++ more)).plain; thread = (split_of (ms ++ more)).thread; kernel = n; bare = (split_of ms).bare + (split_of more).bare }) kernel
    ∙ ap (λ n. record { plain = (split_of (ms ++ more)).plain; thread = (split_of (ms ++ more)).thread; kernel = (split_of (ms ++ more)).kernel; bare = n }) bare

abbrev point_from : ℕ → ℕ → ℕ → ℕ → ℕ → Split → Point
point_from size calls least most all split = record { size = size; calls = calls; least = least; most = most; sum = all; split = Some split }

pub points-append : (size : ℕ) (ms more : List Done) → 1 ≤ length ms → 1 ≤ length more → merged (point_of size ms) (point_of size more) ≡ point_of size (ms ++ more)
points-append size ms more some others =
    let xs = costs_of ms in
    let ys = costs_of more in
    let costs : costs_of (ms ++ more) ≡ costs_of ms ++ costs_of more = map-append (λ d. d.cost) ms more in
    let calls : length (costs_of ms) + length (costs_of more) ≡ length (costs_of (ms ++ more)) = sym (length-append (costs_of ms) (costs_of more)) ∙ ap length (sym costs) in
    let least : min (least_of (costs_of ms)) (least_of (costs_of more)) ≡ least_of (costs_of (ms ++ more)) =
    least-append (costs_of ms) (costs_of more) (some-costs ms some) (some-costs more others) ∙ ap least_of (sym costs) in
    let most : max (greatest_of (costs_of ms)) (greatest_of (costs_of more)) ≡ greatest_of (costs_of (ms ++ more)) =
    greatest-append (costs_of ms) (costs_of more) (some-costs ms some) (some-costs more others) ∙ ap greatest_of (sym costs) in
    let all : sum (costs_of ms) + sum (costs_of more) ≡ sum (costs_of (ms ++ more)) = sym (sum_by-append (λ x. x) (costs_of ms) (costs_of more)) ∙ ap sum (sym costs) in
    ap (λ n. point_from size n (min (least_of xs) (least_of ys)) (max (greatest_of xs) (greatest_of ys)) (sum xs + sum ys) (split_sum (split_of ms) (split_of more))) calls
    ∙ ap (λ n. point_from size (length (costs_of (ms ++ more))) n (max (greatest_of xs) (greatest_of ys)) (sum xs + sum ys) (split_sum (split_of ms) (split_of more))) least
    ∙ ap (λ n. point_from size (length (costs_of (ms ++ more))) (least_of (costs_of (ms ++ more))) n (sum xs + sum ys) (split_sum (split_of ms) (split_of more))) most
    ∙ ap (λ n. point_from size (length (costs_of (ms ++ more))) (least_of (costs_of (ms ++ more))) (greatest_of (costs_of (ms ++ more))) n (split_sum (split_of ms) (split_of more))) all
    ∙ ap (λ s. point_from size (length (costs_of (ms ++ more))) (least_of (costs_of (ms ++ more))) (greatest_of (costs_of (ms ++ more))) (sum (costs_of (ms ++ more))) s) (split-append ms more)

abbrev size_of : Done → ℕ
size_of d = d.size

abbrev entry_of : Done → ℕ
entry_of d = d.entry

abbrev sized : List Done → List Point
sized members = grouped size_of point_of members

pub sized-more : (p : Point) (ms more : List Done) → 1 ≤ length more → All (λ d. d.size ≡ p.size) more → p ≡ point_of p.size more →
    sized (ms ++ more) ≡ put (λ q. q.size) p.size (λ q. merged q p) p (sized ms)
sized-more p ms more some sizes is =
    grouped_put size_of point_of (λ q. q.size) (λ k qs. refl) p.size (λ q. merged q p) p ms more sizes some
    (λ qs have. ap (merged (point_of p.size qs)) is ∙ points-append p.size qs more have some) is

sized-one : (p : Point) (more : List Done) → 1 ≤ length more → All (λ d. d.size ≡ p.size) more → p ≡ point_of p.size more → p ∷ [] ≡ sized more
unfolding grouped
sized-one p more some sizes is = sym (sized-more p [] more some sizes is)

abbrev routine : ℕ → List Point → Routine
routine entry ps = record { entry = entry; points = ps }

-- a table of activations takes in the point of others
pub points-more : (entry : ℕ) (p : Point) (added more : List Done) → ArePointOf entry p more → with_point entry p (points added) ≡ points (added ++ more)
points-more entry p added more are =
    sym (grouped_put entry_of routine_of (λ r. r.entry) (λ k ms. refl) entry (point_added p) (routine entry (p ∷ [])) added more are.entries are.some
    (λ ms have. ap (routine entry) (sym (sized-more p ms more are.some are.sizes are.point)))
    (ap (routine entry) (sized-one p more are.some are.sizes are.point)))

pub contents-more : (entry : ℕ) (p : Point) (old new : TableContents) (added more : List Done) → ArePointOf entry p more → old ≡ contents_of added →
    new.routines ≡ with_point entry p old.routines → new.members ≡ old.members + p.calls → new ≡ contents_of (added ++ more)
contents-more entry p old new added more are is routines members =
    let calls : p.calls ≡ length more = ap (λ (q : Point). q.calls) are.point ∙ length-map more (λ (d : Done). d.cost) in
    let all : new.members ≡ length (added ++ more) =
    members ∙ ap₂ (λ a b. a + b) (ap (λ (t : TableContents). t.members) is) calls ∙ sym (length-append added more) in
    let there : new.routines ≡ points (added ++ more) =
    routines ∙ ap (λ (t : TableContents). with_point entry p t.routines) is ∙ points-more entry p added more are in
    ap₂ (λ m rs. record { members = m; routines = rs }) all there

-- ---- what holds of each point stays
split-merged : (n m : ℕ) (s t : Split) → IsSplit n s → IsSplit m t → IsSplit (n + m) (split_sum s t)
split-merged n m s t own others = record {
  parts = omega (arith, own.parts, others.parts);
  low = omega (arith, own.low, others.low);
  high = omega (arith, own.high, others.high);
}

both-split : (size n m : ℕ) (s t : Option Split) → IfSome s (IsSplit (size * n)) → IfSome t (IsSplit (size * m)) → IfSome (split_both s t) (IsSplit (size * (n + m)))
both-split size n m None t own others = tt
both-split size n m (Some s) None own others = tt
both-split size n m (Some s) (Some t) own others = subst (λ k. IsSplit k (split_sum s t)) (grind arith) (split-merged (size * n) (size * m) s t own others)

both-told : (s t : Option Split) → is_some s ≡ true → is_some t ≡ true → is_some (split_both s t) ≡ true
both-told (Some s) (Some t) own others = refl
both-told None t own others = absurd (cc)
both-told (Some s) None own others = absurd (cc)

IsPoint-merged : (p q : Point) → q.size ≡ p.size → IsPoint p → IsPoint q → IsPoint (merged q p)
IsPoint-merged p q same of_p of_q = record {
  some = omega (arith, of_q.some);
  ordered = omega (arith, of_p.ordered, of_q.ordered);
  low =
      let one : p.calls * min q.least p.least ≤ p.calls * p.least = mul-le p.calls (min q.least p.least) p.calls p.least (omega arith) (omega arith) in
      let two : q.calls * min q.least p.least ≤ q.calls * q.least = mul-le q.calls (min q.least p.least) q.calls q.least (omega arith) (omega arith) in
      let parts : (q.calls + p.calls) * min q.least p.least ≡ q.calls * min q.least p.least + p.calls * min q.least p.least = grind arith in
      omega (arith, one, two, parts, of_p.low, of_q.low);
  high =
      let one : p.calls * p.most ≤ p.calls * max q.most p.most = mul-le p.calls p.most p.calls (max q.most p.most) (omega arith) (omega arith) in
      let two : q.calls * q.most ≤ q.calls * max q.most p.most = mul-le q.calls q.most q.calls (max q.most p.most) (omega arith) (omega arith) in
      let parts : (q.calls + p.calls) * max q.most p.most ≡ q.calls * max q.most p.most + p.calls * max q.most p.most = grind arith in
      omega (arith, one, two, parts, of_p.high, of_q.high);
  split = both-split q.size q.calls p.calls q.split p.split of_q.split (subst (λ n. IfSome p.split (IsSplit (n * p.calls))) (sym same) of_p.split);
}

one-rises : (n : ℕ) → IsRising (n ∷ [])
one-rises n = λ i j lt inside. absurd (omega (arith, lt, inside))

module _ (p : Point) (told : is_some p.split ≡ true) (of_p : IsPoint p) where
  IsRoutine-one : (entry : ℕ) → IsRoutine (routine entry (p ∷ []))
  IsRoutine-one entry = record {
    some = omega arith;
    sizes = one-rises p.size;
    each = All-cons IsPoint p [] of_p (All-nil IsPoint);
    split = All-cons (λ q. is_some q.split ≡ true) p [] told (All-nil (λ q. is_some q.split ≡ true));
  }

  IsRoutine-added : (r : Routine) → IsRoutine r → IsRoutine (point_added p r)
  IsRoutine-added r of_r = record {
    some = some-put (λ q. q.size) p.size (λ q. merged q p) p r.points;
    sizes = subst IsRising (sym (keys_put (λ q. q.size) p.size (λ q. merged q p) p refl (λ q. refl) r.points)) (IsRising-insert p.size (map (λ q. q.size) r.points) of_r.sizes);
    each = put-all (λ q. q.size) p.size (λ q. merged q p) p IsPoint of_p (λ q same of_q. IsPoint-merged p q same of_p of_q) r.points of_r.each;
    split = put-all (λ q. q.size) p.size (λ q. merged q p) p (λ q. is_some q.split ≡ true) told (λ q same told_q. both-told q.split p.split told_q told) r.points of_r.split;
  }

  pub IsProfile-with : (entry : ℕ) (routines : List Routine) → IsProfile routines → IsProfile (with_point entry p routines)
  IsProfile-with entry routines profile = record {
    entries = subst IsRising (sym (keys_put (λ r. r.entry) entry (point_added p) (routine entry (p ∷ [])) refl (λ r. refl) routines)) (IsRising-insert entry (map (λ r. r.entry) routines) profile.entries);
    each = put-all (λ r. r.entry) entry (point_added p) (routine entry (p ∷ [])) IsRoutine (IsRoutine-one entry) (λ r same of_r. IsRoutine-added r of_r) routines profile.each;
  }

module _ (p : Point) (m n : ℕ) (more : n ≡ m + p.calls) (small : p.size < 2 ^ 64) (cheap : p.most < 2 ^ 64) where
  itself : IsCounted n p
  itself = record { calls = omega (arith, more); size = small; most = cheap }

  others-counted : (q : Point) → IsCounted m q → IsCounted n q
  others-counted q of_q = record { calls = omega (arith, more, of_q.calls); size = of_q.size; most = of_q.most }

  merged-counted : (q : Point) → IsCounted m q → IsCounted n (merged q p)
  merged-counted q of_q = record { calls = omega (arith, more, of_q.calls); size = of_q.size; most = omega (arith, of_q.most, cheap) }

  points-counted : (ps : List Point) → All (IsCounted m) ps → All (IsCounted n) (put (λ q. q.size) p.size (λ q. merged q p) p ps)
  points-counted ps all = put-both (λ q. q.size) p.size (λ q. merged q p) p (IsCounted m) (IsCounted n) itself others-counted (λ q same of_q. merged-counted q of_q) ps all

  pub counted-with : (entry : ℕ) (routines : List Routine) → All (λ r. All (IsCounted m) r.points) routines → All (λ r. All (IsCounted n) r.points) (with_point entry p routines)
  counted-with entry routines all =
      put-both (λ r. r.entry) entry (point_added p) (routine entry (p ∷ [])) (λ r. All (IsCounted m) r.points) (λ r. All (IsCounted n) r.points)
      (All-cons (IsCounted n) p [] itself (All-nil (IsCounted n)))
      (λ r each. All-weaker (IsCounted m) (IsCounted n) others-counted r.points each)
      (λ r same each. points-counted r.points each) routines all

pub few-with : (p : Point) (entry m n : ℕ) (routines : List Routine) → 1 ≤ p.calls → n ≡ m + p.calls → length routines ≤ m → length (with_point entry p routines) ≤ n
few-with p entry m n routines some more few =
    omega (arith, some, more, few, length-put (λ (r : Routine). r.entry) entry (point_added p) (record { entry = entry; points = p ∷ [] }) routines)

-- ---- there is room
split-room : (n : ℕ) (s : Option Split) → n < 2 ^ 127 → IfSome s (IsSplit n) → IfSome s HasSplitRoom
split-room n None few is = tt
split-room n (Some s) few is = record {
  plain = omega (arith, few, is.parts);
  thread = omega (arith, few, is.parts);
  kernel = omega (arith, few, is.parts);
  bare = omega (arith, few, is.high);
}

pub HasRoom-of : (p : Point) (m : ℕ) → m < 2 ^ 63 → IsPoint p → IsCounted m p → HasRoom p
HasRoom-of p m few is counted = record {
  calls = omega (arith, few, counted.calls);
  sum =
      let most : p.calls * p.most ≤ 9223372036854775807 * 18446744073709551615 = mul-le p.calls p.most 9223372036854775807 18446744073709551615 (omega (arith, few, counted.calls)) (omega (arith, counted.most)) in
      omega (arith, most, is.high);
  split =
      let most : p.size * p.calls ≤ 18446744073709551615 * 9223372036854775807 = mul-le p.size p.calls 18446744073709551615 9223372036854775807 (omega (arith, counted.size)) (omega (arith, few, counted.calls)) in
      split-room (p.size * p.calls) p.split (omega (arith, most)) is.split;
}

pub rooms-of : (m : ℕ) (routines : List Routine) → m < 2 ^ 63 → IsProfile routines → All (λ r. All (IsCounted m) r.points) routines → All (λ r. All HasRoom r.points) routines
rooms-of m routines few profile counted = λ i d inside j e within. HasRoom-of _ m few ((profile.each i d inside).each j e within) (counted i d inside j e within)

-- ---- a routine of one point
pub on_ok : {T E : Type 0} (r : Result T E) (P Q : Type 0) → OnOk r P → (P → Q) → OnOk r Q
on_ok (Ok x) P Q p last = last p
on_ok (Err e) P Q p last = tt

abbrev pub new_routine : ℕ → Point → Routine
new_routine entry p = record { entry = entry; points = p ∷ [] }

pub routine_same : (e f : ℕ) (ps qs : List Point) → e ≡ f → ps ≡ qs → routine e ps ≡ routine f qs
routine_same e f ps qs same_entry same_points = ap₂ routine same_entry same_points

-- ---- the point of one activation
pub are_one : (d : Done) (p : Point) → p ≡ point_of d.size (d ∷ []) → ArePointOf d.entry p (d ∷ [])
are_one d p is =
    let same : d.size ≡ p.size = sym (ap (λ (q : Point). q.size) is) in
    record {
      some = omega arith;
      entries = All-cons (λ (e : Done). e.entry ≡ d.entry) d [] refl (All-nil (λ (e : Done). e.entry ≡ d.entry));
      sizes = All-cons (λ (e : Done). e.size ≡ p.size) d [] same (All-nil (λ (e : Done). e.size ≡ p.size));
      point = is ∙ ap (λ n. point_of n (d ∷ [])) same;
    }

pub one_is_point : (d : Done) → HasParts d → IsPoint (point_of d.size (d ∷ []))
one_is_point d parts =
    IsPoint-of d.size (d ∷ []) (omega arith) (All-cons (λ (e : Done). e.size ≡ d.size) d [] refl (All-nil (λ (e : Done). e.size ≡ d.size)))
    (All-cons HasParts d [] parts (All-nil HasParts))
