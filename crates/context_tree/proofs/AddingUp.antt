-- What the contexts of a routine have adds up to what the routine has.
use Rattle.std.proofs.Common.{◌≡◌, ℕ, suc, ◌+◌, ◌<◌, Bool, true, false, cond, List, [], ◌∷◌, ◌++◌, length, get_or, map, refl, sym, ap, ap₂, ◌∙◌, arith}
use Rattle.std.specs.Prelude.{◌==◌, ◌||◌}
use Rattle.std.specs.Cmp.Lexicographic.{told_text}
use Rattle.std.specs.Option.{option_map_or}
use Rattle.std.specs.List.{All, count_by, filter, flat_map, list_any, sum_by}
use Rattle.std.proofs.lemmas.Bool.Decides.{nat_tests}
use Rattle.std.proofs.lemmas.List.{length-map}
use Rattle.std.proofs.lemmas.List.Elements.{All-cons, All-head, All-nil, All-tail, All-weaker}
use Rattle.std.proofs.lemmas.List.Sums.{sum-map, sum_by-append, sum_by-cons}
use Rattle.trace_model.specs.declared.event_kinds.Event.{Event}
use Rattle.trace_model.specs.declared.slow_profile.Done.{Done}
use Rattle.trace_model.specs.Profile.{done}
use Rattle.cost_points.specs.declared.point.Point.{Point}
use Rattle.cost_points.specs.Keys.{rising}
use Rattle.cost_points.specs.Points.{Routine, point_of, points, routine_of}
use Rattle.cost_points.proofs.Grouped.{grouped_is, having}
use Rattle.context_tree.specs.Contexts.{contexts, same}
use Rattle.context_tree.specs.Laws.{AddUp, EachHasOneContext, context_points, is_of, routine_points}
use Rattle.context_tree.specs.Points.{done_in_context, members_of, points_from, points_in}
use Rattle.context_tree.proofs.Reordered.{IsOfOne}
use Rattle.context_tree.proofs.Rooms.{all_done}
use Rattle.context_tree.proofs.Standing.{have_places}
use Rattle.context_tree.proofs.Summing.{EndsIn, all_end, one_context, one_key, one_size, points_are, same_turned}

-- ---- sums
module _ {K : Type 0} where
  sum_all : (f g : K → ℕ) → ((k : K) → f k ≡ g k) → (ks : List K) → sum_by f ks ≡ sum_by g ks
  sum_all f g is [] = refl
  sum_all f g is (k ∷ ks) = sum_by-cons f k ks ∙ ap₂ (λ m n. m + n) (is k) (sum_all f g is ks) ∙ sym (sum_by-cons g k ks)

  sum_plus : (f g : K → ℕ) (ks : List K) → sum_by (λ k. f k + g k) ks ≡ sum_by f ks + sum_by g ks
  sum_plus f g [] = refl
  sum_plus f g (k ∷ ks) = omega (arith, sum_by-cons (λ k. f k + g k) k ks, sum_by-cons f k ks, sum_by-cons g k ks, sum_plus f g ks)

  sum_zero : (ks : List K) → sum_by (λ (k : K). 0) ks ≡ 0
  sum_zero [] = refl
  sum_zero (k ∷ ks) = omega (arith, sum_by-cons (λ (k : K). 0) k ks, sum_zero ks)

  sum_ones : (ks : List K) → sum_by (λ (k : K). 1) ks ≡ length ks
  sum_ones [] = refl
  sum_ones (k ∷ ks) = omega (arith, sum_by-cons (λ (k : K). 1) k ks, sum_ones ks)

  sum_mapped : {A : Type 0} (f : A → ℕ) (g : K → A) (ks : List K) → sum_by f (map g ks) ≡ sum_by (λ k. f (g k)) ks
  sum_mapped f g [] = refl
  sum_mapped f g (k ∷ ks) = sum_by-cons f (g k) (map g ks) ∙ ap (λ n. f (g k) + n) (sum_mapped f g ks) ∙ sym (sum_by-cons (λ k. f (g k)) k ks)

  -- those that pass a test, one after the other
  sum_chosen : {A : Type 0} (f : A → ℕ) (g : K → List A) (t : K → Bool) (ks : List K) → sum_by f (flat_map g (filter t ks)) ≡ sum_by (λ k. cond (t k) (sum_by f (g k)) 0) ks
  sum_chosen f g t [] = refl
  sum_chosen f g t (k ∷ ks) = by (t k) (sum_chosen f g t ks) ∙ sym (sum_by-cons (λ k. cond (t k) (sum_by f (g k)) 0) k ks)
    where
      by : (b : Bool) → sum_by f (flat_map g (filter t ks)) ≡ sum_by (λ k. cond (t k) (sum_by f (g k)) 0) ks →
          sum_by f (flat_map g (cond b (k ∷ filter t ks) (filter t ks))) ≡ cond b (sum_by f (g k)) 0 + sum_by (λ k. cond (t k) (sum_by f (g k)) 0) ks
      by true rest = sum_by-append f (g k) (flat_map g (filter t ks)) ∙ ap (λ n. sum_by f (g k) + n) rest
      by false rest = omega (arith, rest)

  -- what passes the test counts once
  module _ (q : K → Bool) (v : ℕ) where
    none_sum : (ks : List K) → ((j : ℕ) (d : K) → j < length ks → q (get_or ks j d) ≡ true → ⊥) → sum_by (λ k. cond (q k) v 0) ks ≡ 0
    none_sum [] none = refl
    none_sum (k ∷ ks) none =
        sum_by-cons (λ k. cond (q k) v 0) k ks
        ∙ ap₂ (λ m n. m + n) (by (q k) refl) (none_sum ks (λ j d lt is. none (suc j) d (omega (arith, lt)) is))
      where
        by : (b : Bool) → q k ≡ b → cond b v 0 ≡ 0
        by false is = refl
        by true is = absurd (none 0 k (omega arith) is)

    one_sum : (ks : List K) → IsOfOne q ks → sum_by (λ k. cond (q k) v 0) ks ≡ v
    one_sum [] one = absurd (let is = one.some in cc)
    one_sum (k ∷ ks) one = sum_by-cons (λ k. cond (q k) v 0) k ks ∙ by (q k) refl (λ later. one_sum ks later)
      where
        by : (b : Bool) → q k ≡ b → (IsOfOne q ks → sum_by (λ k. cond (q k) v 0) ks ≡ v) → cond b v 0 + sum_by (λ k. cond (q k) v 0) ks ≡ v
        by true is rest =
            let none : sum_by (λ k. cond (q k) v 0) ks ≡ 0 = none_sum ks (λ j d lt yes. one.once 0 (suc j) d (omega arith) (omega (arith, lt)) is yes) in
            omega (arith, none)
        by false is rest =
            let there : list_any q ks ≡ true = sym (ap (λ b. b || list_any q ks) is) ∙ one.some in
            let later = rest (record { some = there; once = λ i j d less lt yes too. one.once (suc i) (suc j) d (omega (arith, less)) (omega (arith, lt)) yes too }) in
            omega (arith, later)

-- The sums over the parts of a list, by tests of which each member passes one, add up to the sum over the list.
module _ {K A : Type 0} (p : K → A → Bool) (f : A → ℕ) (ks : List K) where
  sum_parts : (xs : List A) → All (λ x. IsOfOne (λ k. p k x) ks) xs → sum_by (λ k. sum_by f (filter (p k) xs)) ks ≡ sum_by f xs
  sum_parts [] each = sum_zero ks
  sum_parts (x ∷ xs) each =
      sum_all (λ k. sum_by f (filter (p k) (x ∷ xs))) (λ k. cond (p k x) (f x) 0 + sum_by f (filter (p k) xs)) (λ k. one (p k x) (filter (p k) xs)) ks
      ∙ sum_plus (λ k. cond (p k x) (f x) 0) (λ k. sum_by f (filter (p k) xs)) ks
      ∙ ap₂ (λ m n. m + n) (one_sum (λ k. p k x) (f x) ks (All-head (λ x. IsOfOne (λ k. p k x) ks) x xs each)) (sum_parts xs (All-tail (λ x. IsOfOne (λ k. p k x) ks) x xs each))
      ∙ sym (sum_by-cons f x xs)
    where
      one : (b : Bool) (us : List A) → sum_by f (cond b (x ∷ us) us) ≡ cond b (f x) 0 + sum_by f us
      one true us = sum_by-cons f x us
      one false us = omega arith

-- ---- the activations of a context are of the routine of its last entry
module _ (entry : ℕ) where
  last_of : (front : List ℕ) (x : ℕ) → is_of entry (front ++ x ∷ []) ≡ (x == entry)
  last_of [] x = refl
  last_of (a ∷ []) x = refl
  last_of (a ∷ b ∷ front) x = last_of (b ∷ front) x

  pub members_named : (all : List (List ℕ × Done)) (c : List ℕ) → All EndsIn all → All (λ d. (d.entry == entry) ≡ is_of entry c) (members_of all c)
  members_named [] c ends = All-nil (λ (d : Done). (d.entry == entry) ≡ is_of entry c)
  members_named (x ∷ xs) c ends = by (same c x.0) refl (members_named xs c (All-tail EndsIn x xs ends))
    where
      by : (b : Bool) → same c x.0 ≡ b → All (λ d. (d.entry == entry) ≡ is_of entry c) (members_of xs c) →
          All (λ d. (d.entry == entry) ≡ is_of entry c) (map (λ (y : List ℕ × Done). y.1) (cond b (x ∷ filter (λ (y : List ℕ × Done). same c y.0) xs) (filter (λ (y : List ℕ × Done). same c y.0) xs)))
      by false other rest = rest
      by true told rest =
          let there : c ≡ x.0 = told_text c x.0 true (sym told) in
          let end = All-head EndsIn x xs ends in
          All-cons (λ (d : Done). (d.entry == entry) ≡ is_of entry c) x.1 (members_of xs c) (sym (last_of end.front x.1.entry) ∙ sym (ap (is_of entry) (there ∙ end.is))) rest

-- ---- the number of a point that is a sum over its activations
module _ (m : Point → ℕ) (of : Done → ℕ) (adds : (size : ℕ) (ds : List Done) → m (point_of size ds) ≡ sum_by of ds) where
  of_points : (ms : List Done) → sum_by m (points_from ms) ≡ sum_by of ms
  of_points ms =
      let ks = rising (map (λ (d : Done). d.size) ms) in
      ap (sum_by m) (points_are ms)
      ∙ sum_mapped m (λ k. point_of k (having (λ (d : Done). d.size) k ms)) (rising (map (λ (d : Done). d.size) ms))
      ∙ sum_all (λ k. m (point_of k (having (λ (d : Done). d.size) k ms))) (λ k. sum_by of (having (λ (d : Done). d.size) k ms)) (λ k. adds k (having (λ (d : Done). d.size) k ms)) ks
      ∙ sum_parts (λ k (d : Done). d.size == k) of (rising (map (λ (d : Done). d.size) ms)) ms (one_size ms)

  module _ (entry : ℕ) where
    -- of the routine alone
    abbrev own : Done → ℕ
    own d = cond (d.entry == entry) (of d) 0

    weighed : (b : Bool) (ms : List Done) → All (λ d. (d.entry == entry) ≡ b) ms → cond b (sum_by of ms) 0 ≡ sum_by (λ (d : Done). cond (d.entry == entry) (of d) 0) ms
    weighed true [] all = refl
    weighed false [] all = refl
    weighed true (d ∷ ds) all =
        sum_by-cons of d ds
        ∙ ap₂ (λ m n. m + n) (ap (λ b. cond b (of d) 0) (sym (All-head (λ (d : Done). (d.entry == entry) ≡ true) d ds all))) (weighed true ds (All-tail (λ (d : Done). (d.entry == entry) ≡ true) d ds all))
        ∙ sym (sum_by-cons own d ds)
    weighed false (d ∷ ds) all =
        ap₂ (λ m n. m + n) (ap (λ b. cond b (of d) 0) (sym (All-head (λ (d : Done). (d.entry == entry) ≡ false) d ds all))) (weighed false ds (All-tail (λ (d : Done). (d.entry == entry) ≡ false) d ds all))
        ∙ sym (sum_by-cons own d ds)

    -- by routine
    having_named : (k : ℕ) (ds : List Done) → All (λ (d : Done). (d.entry == entry) ≡ (k == entry)) (having (λ (d : Done). d.entry) k ds)
    having_named k [] = All-nil (λ (d : Done). (d.entry == entry) ≡ (k == entry))
    having_named k (d ∷ ds) = by (d.entry == k) refl (having_named k ds)
      where
        by : (b : Bool) → (d.entry == k) ≡ b → All (λ (e : Done). (e.entry == entry) ≡ (k == entry)) (having (λ (e : Done). e.entry) k ds) →
            All (λ (e : Done). (e.entry == entry) ≡ (k == entry)) (cond b (d ∷ filter (λ (e : Done). e.entry == k) ds) (filter (λ (e : Done). e.entry == k) ds))
        by false is rest = rest
        by true is rest =
            let there : d.entry ≡ k = grind (arith, nat_tests, is) in
            All-cons (λ (e : Done). (e.entry == entry) ≡ (k == entry)) d (having (λ (e : Done). e.entry) k ds) (ap (λ n. n == entry) there) rest

    of_routine : (all : List Done) → sum_by m (flat_map (λ (r : Routine). r.points) (filter (λ (r : Routine). r.entry == entry) (points all))) ≡ sum_by (λ (d : Done). cond (d.entry == entry) (of d) 0) all
    of_routine all =
        let ks = rising (map (λ (d : Done). d.entry) all) in
        sum_chosen m (λ (r : Routine). r.points) (λ (r : Routine). r.entry == entry) (points all)
        ∙ ap (sum_by (λ (r : Routine). cond (r.entry == entry) (sum_by m r.points) 0)) (grouped_is (λ (d : Done). d.entry) routine_of all)
        ∙ sum_mapped (λ (r : Routine). cond (r.entry == entry) (sum_by m r.points) 0) (λ k. routine_of k (having (λ (d : Done). d.entry) k all)) (rising (map (λ (d : Done). d.entry) all))
        ∙ sum_all (λ k. cond (k == entry) (sum_by m (points_from (having (λ (d : Done). d.entry) k all))) 0) (λ k. sum_by own (having (λ (d : Done). d.entry) k all))
        (λ k. ap (λ n. cond (k == entry) n 0) (of_points (having (λ (d : Done). d.entry) k all)) ∙ weighed (k == entry) (having (λ (d : Done). d.entry) k all) (having_named k all)) (rising (map (λ (d : Done). d.entry) all))
        ∙ sum_parts (λ k (d : Done). d.entry == k) own (rising (map (λ (d : Done). d.entry) all)) all (one_key (λ (d : Done). d.entry) all)

    -- by context
    of_contexts : (past : List Event) → sum_by m (context_points past entry) ≡ sum_by (λ (d : Done). cond (d.entry == entry) (of d) 0) (done past)
    of_contexts past =
        let have = have_places past in
        sum_chosen m (points_in past) (is_of entry) (contexts past)
        ∙ sum_all (λ c. cond (is_of entry c) (sum_by m (points_in past c)) 0) (λ c. sum_by (λ (x : List ℕ × Done). own x.1) (filter (λ (x : List ℕ × Done). same c x.0) (done_in_context past)))
        (λ c. ap (λ n. cond (is_of entry c) n 0) (of_points (members_of (done_in_context past) c))
        ∙ weighed (is_of entry c) (members_of (done_in_context past) c) (members_named entry (done_in_context past) c (all_end past))
        ∙ sum_mapped own (λ (x : List ℕ × Done). x.1) (filter (λ (x : List ℕ × Done). same c x.0) (done_in_context past))) (contexts past)
        ∙ sum_parts (λ c (x : List ℕ × Done). same c x.0) (λ (x : List ℕ × Done). own x.1) (contexts past) (done_in_context past) (one_context past have.places have.stands)
        ∙ sym (sum_mapped own (λ (x : List ℕ × Done). x.1) (done_in_context past))
        ∙ ap (sum_by own) (all_done past)

    both : (past : List Event) → sum_by m (context_points past entry) ≡ sum_by m (routine_points past entry)
    both past = of_contexts past ∙ sym (of_routine (done past))

pub routines_add_up : (past : List Event) (entry : ℕ) → AddUp (context_points past entry) (routine_points past entry)
routines_add_up past entry = record {
  calls = both (λ (p : Point). p.calls) (λ (d : Done). 1) (λ size ds. length-map ds (λ (d : Done). d.cost) ∙ sym (sum_ones ds)) entry past;
  sums = both (λ (p : Point). p.sum) (λ (d : Done). d.cost) (λ size ds. sum-map (λ (d : Done). d.cost) ds) entry past;
  plain = both (λ (p : Point). option_map_or (λ s. s.plain) p.split 0) (λ (d : Done). d.plain) (λ size ds. refl) entry past;
  thread = both (λ (p : Point). option_map_or (λ s. s.thread) p.split 0) (λ (d : Done). d.thread) (λ size ds. refl) entry past;
  kernel = both (λ (p : Point). option_map_or (λ s. s.kernel) p.split 0) (λ (d : Done). d.kernel) (λ size ds. refl) entry past;
  bare = both (λ (p : Point). option_map_or (λ s. s.bare) p.split 0) (λ (d : Done). d.bare) (λ size ds. refl) entry past;
}

pub one_context_each : (past : List Event) → EachHasOneContext past
one_context_each past =
    let have = have_places past in
    record {
      all = all_done past;
      one = All-weaker (λ (x : List ℕ × Done). IsOfOne (λ c. same c x.0) (contexts past)) (λ x. count_by (same x.0) (contexts past) ≡ 1)
          (λ x is. sum_all (λ c. cond (same x.0 c) 1 0) (λ c. cond (same c x.0) 1 0) (λ c. ap (λ b. cond b 1 0) (same_turned x.0 c)) (contexts past)
          ∙ one_sum (λ c. same c x.0) 1 (contexts past) is) (done_in_context past) (one_context past have.places have.stands);
    }
