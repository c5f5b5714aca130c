-- The points of a run have room for one more activation.
use Rattle.std.proofs.Common.{◌≡◌, ℕ, suc, ◌*◌, ◌<◌, ◌≤◌, ◌^◌, Bool, true, false, cond, List, [], ◌∷◌, ◌++◌, length, get_or, map, refl, sym, ap, ◌∙◌, subst, arith}
use Rattle.std.specs.Prelude.{◌==◌, Option, Some, None}
use Rattle.std.specs.List.{All, filter, sum_by, zip}
use Rattle.std.proofs.lemmas.List.{length-map, map-append}
use Rattle.std.proofs.lemmas.List.Elements.{All-cons, All-filter, All-head, All-map, All-nil, All-tail, All-weaker}
use Rattle.std.proofs.lemmas.List.FromFn.{length-map-range_with_len}
use Rattle.std.proofs.lemmas.List.Sums.{sum_by-le}
use Rattle.std.proofs.lemmas.Nat.{mul-le}
use Rattle.trace_model.specs.declared.event_kinds.Event.{Event}
use Rattle.trace_model.specs.declared.slow_profile.Done.{Done}
use Rattle.trace_model.specs.Activations.{ending_calls}
use Rattle.trace_model.specs.Events.{thread_of}
use Rattle.trace_model.specs.Profile.{HasParts, done, done_of, ended, ended_of}
use Rattle.trace_model.specs.WellFormed.{IsLight, weight}
use Rattle.trace_model.proofs.Causes.{done_has_parts}
use Rattle.cost_points.specs.Points.{point_of}
use Rattle.cost_points.specs.Search.{HasRoom}
use Rattle.cost_points.proofs.Bounds.{All-grouped}
use Rattle.cost_points.proofs.Grouped.{having}
use Rattle.cost_points.proofs.Small.{IsSmall, few_done, small_done}
use Rattle.cost_points.proofs.Tables.{sizes_rise}
use Rattle.context_tree.specs.Contexts.{same}
use Rattle.context_tree.specs.Points.{contexts_ended, done_in_context, members_of, points_from, points_in}
use Rattle.context_tree.specs.Private.Ways.{ArePoints}

-- ---- ended activations with their contexts are the ended activations
zip_second : {A B : Type 0} (xs : List A) (ys : List B) → length xs ≡ length ys → map (λ (x : A × B). x.1) (zip xs ys) ≡ ys
zip_second [] [] long = refl
zip_second [] (y ∷ ys) long = absurd (omega (arith, long))
zip_second (x ∷ xs) [] long = absurd (omega (arith, long))
zip_second (x ∷ xs) (y ∷ ys) long = ap (λ zs. y ∷ zs) (zip_second xs ys (omega (arith, long)))

each_context : (e : Event) (past : List Event) (o : Option ℕ) → length (contexts_ended e past o) ≡ length (ended_of past e o)
each_context e past None = refl
each_context e past (Some t) = length-map-range_with_len _ 0 (length (ending_calls e past t)) ∙ sym (length-map (ending_calls e past t) (done_of past t))

pub all_done : (past : List Event) → map (λ (x : List ℕ × Done). x.1) (done_in_context past) ≡ done past
all_done [] = refl
all_done (e ∷ past) =
    map-append (λ (x : List ℕ × Done). x.1) (done_in_context past) (zip (contexts_ended e past (thread_of e)) (ended e past))
    ∙ ap (λ ds. ds ++ map (λ (x : List ℕ × Done). x.1) (zip (contexts_ended e past (thread_of e)) (ended e past))) (all_done past)
    ∙ ap (λ ds. done past ++ ds) (zip_second (contexts_ended e past (thread_of e)) (ended e past) (each_context e past (thread_of e)))

-- ---- what holds of all holds of the members of a context
in_pairs : (P : Done → Type 0) (all : List (List ℕ × Done)) → All P (map (λ x. x.1) all) → All (λ (x : List ℕ × Done). P x.1) all
in_pairs P [] each = All-nil (λ (x : List ℕ × Done). P x.1)
in_pairs P (x ∷ xs) each =
    All-cons (λ (x : List ℕ × Done). P x.1) x xs (All-head P x.1 (map (λ (y : List ℕ × Done). y.1) xs) each) (in_pairs P xs (All-tail P x.1 (map (λ (y : List ℕ × Done). y.1) xs) each))

pub of_members : (P : Done → Type 0) (all : List (List ℕ × Done)) (c : List ℕ) → All P (map (λ x. x.1) all) → All P (members_of all c)
of_members P all c each =
    All-map P (λ (x : List ℕ × Done). x.1) (filter (λ (x : List ℕ × Done). same c x.0) all) (All-filter (λ (x : List ℕ × Done). same c x.0) (λ (x : List ℕ × Done). P x.1) all (in_pairs P all each))

filter_le : {A : Type 0} (p : A → Bool) (xs : List A) → length (filter p xs) ≤ length xs
filter_le p [] = omega arith
filter_le p (x ∷ xs) = by (p x) (filter_le p xs)
  where
    by : (b : Bool) → length (filter p xs) ≤ length xs → length (cond b (x ∷ filter p xs) (filter p xs)) ≤ suc (length xs)
    by true le = omega (arith, le)
    by false le = omega (arith, le)

pub few_members : (all : List (List ℕ × Done)) (c : List ℕ) → length (members_of all c) ≤ length all
few_members all c = omega (arith, length-map (filter (λ (x : List ℕ × Done). same c x.0) all) (λ (x : List ℕ × Done). x.1), filter_le (λ (x : List ℕ × Done). same c x.0) all)

-- ---- a point of few and small activations has room
sum_small : {A : Type 0} (f : A → ℕ) (most : ℕ) (xs : List A) → most < 2 ^ 62 → length xs < 2 ^ 62 → All (λ x. f x ≤ most) xs → sum_by f xs < 2 ^ 127
sum_small f most xs low few each =
    let whole : sum_by f xs ≤ length xs * most = sum_by-le f most xs each in
    let times : length xs * most ≤ 4611686018427387904 * 4611686018427387904 = mul-le (length xs) most 4611686018427387904 4611686018427387904 (omega (arith, few)) (omega (arith, low)) in
    omega (arith, whole, times)

small_point : (most k : ℕ) (ms : List Done) → most < 2 ^ 62 → length ms < 2 ^ 62 → All (IsSmall most) ms → All HasParts ms → HasRoom (point_of k ms)
small_point most k ms low few small parts =
    let costs = map (λ (d : Done). d.cost) ms in
    let long : length (map (λ (d : Done). d.cost) ms) ≡ length ms = length-map ms (λ (d : Done). d.cost) in
    let each : All (λ n. n ≤ most) (map (λ (d : Done). d.cost) ms) = All-map (λ n. n ≤ most) (λ (d : Done). d.cost) ms (All-weaker (IsSmall most) (λ d. d.cost ≤ most) (λ d s. s.1) ms small) in
    let both : (f : Done → ℕ) → ((d : Done) → HasParts d → f d ≤ d.size) → All (λ d. f d ≤ most) ms =
    λ f le i d inside. let one = le (get_or ms i d) (parts i d inside) in let two = (small i d inside).0 in omega (arith, one, two) in
    record {
      calls = omega (arith, long, few);
      sum = sum_small (λ n. n) most (map (λ (d : Done). d.cost) ms) low (omega (arith, long, few)) each;
      split = record {
        plain = sum_small (λ (d : Done). d.plain) most ms low few (both (λ (d : Done). d.plain) (λ d p. omega (arith, p.parts)));
        thread = sum_small (λ (d : Done). d.thread) most ms low few (both (λ (d : Done). d.thread) (λ d p. omega (arith, p.parts)));
        kernel = sum_small (λ (d : Done). d.kernel) most ms low few (both (λ (d : Done). d.kernel) (λ d p. omega (arith, p.parts)));
        bare = sum_small (λ (d : Done). d.bare) most ms low few (both (λ (d : Done). d.bare) (λ d p. p.high));
      };
    }

pub are_points : (most : ℕ) (ms : List Done) → most < 2 ^ 62 → length ms < 2 ^ 62 → All (IsSmall most) ms → All HasParts ms → ArePoints (points_from ms)
are_points most ms low few small parts = record {
  rising = sizes_rise ms;
  room = All-grouped (λ (d : Done). d.size) point_of HasRoom ms (λ k some.
      small_point most k (having (λ (d : Done). d.size) k ms) low (let le = filter_le (λ (d : Done). d.size == k) ms in omega (arith, le, few))
      (All-filter (λ (d : Done). d.size == k) (IsSmall most) ms small) (All-filter (λ (d : Done). d.size == k) HasParts ms parts));
}

-- ---- so have the points of the contexts of a past that is light
pub rooms : (past : List Event) → IsLight past → (c : List ℕ) → ArePoints (points_in past c)
rooms past light c =
    let long : length (done_in_context past) ≡ length (done past) = sym (length-map (done_in_context past) (λ (x : List ℕ × Done). x.1)) ∙ ap length (all_done past) in
    are_points (weight past) (members_of (done_in_context past) c) (omega (arith, light)) (omega (arith, few_members (done_in_context past) c, long, few_done past light))
    (of_members (IsSmall (weight past)) (done_in_context past) c (subst (All (IsSmall (weight past))) (sym (all_done past)) (small_done past)))
    (of_members HasParts (done_in_context past) c (subst (All HasParts) (sym (all_done past)) (done_has_parts past)))
