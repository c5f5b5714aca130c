-- The points of all contexts come to those of all activations that ended.
use Rattle.std.proofs.Common.{◌≡◌, ℕ, zero, suc, ◌+◌, ◌<◌, ◌≤◌, ◌^◌, Bool, true, false, cond, inl, inr, List, [], ◌∷◌, ◌++◌, length, get_or, map, take, drop, refl, sym, ap, ap₂, ◌∙◌, subst, arith, length-append}
use Rattle.std.specs.Prelude.{◌==◌, ◌||◌, is_some, Option, Some, None}
use Rattle.std.specs.Cmp.Lexicographic.{told_text}
use Rattle.std.specs.List.{All, filter, flat_map, list_any, range_with_len, sum_by, zip}
use Rattle.std.proofs.lemmas.Bool.Decides.{nat_tests}
use Rattle.std.proofs.lemmas.List.{append-nil, flat_map_more, get_or-map, get_or_default, length-map, map-id, take_all, take_more}
use Rattle.std.proofs.lemmas.List.Elements.{All-append, All-cons, All-filter, All-head, All-nil, All-tail, All-weaker}
use Rattle.std.proofs.lemmas.List.Folds.{length-flat_map-take}
use Rattle.std.proofs.lemmas.List.Sums.{sum_by-cons}
use Rattle.trace_model.specs.declared.event_kinds.Event.{Event}
use Rattle.trace_model.specs.declared.activations.Activation.{Activation}
use Rattle.trace_model.specs.declared.slow_profile.Done.{Done}
use Rattle.trace_model.specs.Activations.{backs, count_ending, open_calls}
use Rattle.trace_model.specs.Events.{thread_of}
use Rattle.trace_model.specs.Profile.{HasParts, done, done_of, ended, ended_of}
use Rattle.trace_model.specs.WellFormed.{IsLight}
use Rattle.trace_model.proofs.Causes.{done_has_parts}
use Rattle.cost_points.specs.declared.point.Point.{Point}
use Rattle.cost_points.specs.Contents.{TableContents, contents_of}
use Rattle.cost_points.specs.Keys.{insert_rising, rising}
use Rattle.cost_points.specs.Merging.{ArePointOf}
use Rattle.cost_points.specs.Points.{point_of}
use Rattle.cost_points.specs.Valid.{IsPoint}
use Rattle.cost_points.proofs.Bounds.{All-grouped, IsPoint-of, having_sized}
use Rattle.cost_points.proofs.Grouped.{grouped_is, having, having_some}
use Rattle.cost_points.proofs.Rising.{IsRising-rising, insert_above, insert_below, insert_same, order}
use Rattle.cost_points.proofs.Small.{few_done}
use Rattle.context_tree.specs.Contexts.{context_of, contexts, same}
use Rattle.context_tree.specs.Numbers.{numbered}
use Rattle.context_tree.specs.Numbers as by_number
use Rattle.context_tree.specs.Points.{contexts_ended, done_in_context, members_of, points_from, points_in}
use Rattle.context_tree.specs.Branches.{KeptBranches, BranchesStandFor}
use Rattle.context_tree.proofs.Following.{context_more, shifted}
use Rattle.context_tree.proofs.Known.{IsKnown, done_known}
use Rattle.context_tree.proofs.Numbering.{same_last, same_told}
use Rattle.context_tree.proofs.Reordered.{AreAlike, IsOfOne, by_parts}
use Rattle.context_tree.proofs.Rooms.{all_done, of_members}

-- ---- each member has one key
abbrev size_of : Done → ℕ
size_of d = d.size

any_own : (x : ℕ) (ks : List ℕ) → list_any (λ k. x == k) (insert_rising x ks) ≡ true
any_own x [] = grind (arith, nat_tests)
any_own x (y ∷ ks) = elim (order x y) [
  | inl h ↦ ap (list_any (λ k. x == k)) (insert_below x y ks h) ∙ ap (λ b. b || list_any (λ k. x == k) (y ∷ ks)) (itself x)
  | inr (inl h) ↦ ap (list_any (λ k. x == k)) (insert_same x y ks h) ∙ ap (λ b. b || list_any (λ k. x == k) ks) (subst (λ z. (x == z) ≡ true) h (itself x))
  | inr (inr h) ↦ ap (list_any (λ k. x == k)) (insert_above x y ks h) ∙ ap (λ b. (x == y) || b) (any_own x ks) ∙ either (x == y)
]
  where
    itself : (z : ℕ) → (z == z) ≡ true
    itself z = grind (arith, nat_tests)

    either : (b : Bool) → (b || true) ≡ true
    either true = refl
    either false = refl

any_kept : (q : ℕ → Bool) (x : ℕ) (ks : List ℕ) → list_any q ks ≡ true → list_any q (insert_rising x ks) ≡ true
any_kept q x [] is = absurd (cc)
any_kept q x (y ∷ ks) is = elim (order x y) [
  | inl h ↦ ap (list_any q) (insert_below x y ks h) ∙ ap (λ b. q x || b) is ∙ either (q x)
  | inr (inl h) ↦ ap (list_any q) (insert_same x y ks h) ∙ is
  | inr (inr h) ↦ ap (list_any q) (insert_above x y ks h) ∙ later (q y) is (any_kept q x ks)
]
  where
    either : (b : Bool) → (b || true) ≡ true
    either true = refl
    either false = refl

    later : (b : Bool) → (b || list_any q ks) ≡ true → (list_any q ks ≡ true → list_any q (insert_rising x ks) ≡ true) → (b || list_any q (insert_rising x ks)) ≡ true
    later true is rest = refl
    later false is rest = rest is

keys_have : (key : Done → ℕ) (ms : List Done) → All (λ d. list_any (λ k. key d == k) (rising (map key ms)) ≡ true) ms
keys_have key [] = All-nil (λ (d : Done). list_any (λ k. key d == k) [] ≡ true)
keys_have key (m ∷ ms) =
    All-cons (λ (d : Done). list_any (λ k. key d == k) (rising (map key (m ∷ ms))) ≡ true) m ms (any_own (key m) (rising (map key ms)))
    (All-weaker (λ (d : Done). list_any (λ k. key d == k) (rising (map key ms)) ≡ true) (λ d. list_any (λ k. key d == k) (rising (map key (m ∷ ms))) ≡ true)
    (λ d is. any_kept (λ k. key d == k) (key m) (rising (map key ms)) is) ms (keys_have key ms))

-- each member has one key
pub one_key : (key : Done → ℕ) (ms : List Done) → All (λ d. IsOfOne (λ k. key d == k) (rising (map key ms))) ms
one_key key ms = All-weaker (λ (d : Done). list_any (λ k. key d == k) (rising (map key ms)) ≡ true) (λ d. IsOfOne (λ k. key d == k) (rising (map key ms)))
    (λ d is. record {
      some = is;
      once = λ i j e less lt yes too.
          let up : get_or (rising (map key ms)) i 0 < get_or (rising (map key ms)) j 0 = IsRising-rising (map key ms) i j less lt in
          let one : key d ≡ get_or (rising (map key ms)) i e = told (key d) (get_or (rising (map key ms)) i e) yes in
          let two : key d ≡ get_or (rising (map key ms)) j e = told (key d) (get_or (rising (map key ms)) j e) too in
          let one_there = get_or_default (rising (map key ms)) i e 0 (omega (arith, less, lt)) in
          let two_there = get_or_default (rising (map key ms)) j e 0 lt in
          absurd (omega (arith, up, one, two, one_there, two_there));
    }) ms (keys_have key ms)
  where
    told : (x y : ℕ) → (x == y) ≡ true → x ≡ y
    told x y is = grind (arith, nat_tests)

pub one_size : (ms : List Done) → All (λ d. IsOfOne (λ k. d.size == k) (rising (map size_of ms))) ms
one_size ms = one_key size_of ms

flat_all : {K A : Type 0} (f g : K → List A) (ks : List K) → ((k : K) → f k ≡ g k) → flat_map f ks ≡ flat_map g ks
flat_all f g [] is = refl
flat_all f g (k ∷ ks) is = ap₂ (λ us vs. us ++ vs) (is k) (flat_all f g ks is)

-- the members by size come to the members
pub by_size : (ms : List Done) → (front : List Done) → contents_of (front ++ flat_map (λ k. having (λ (d : Done). d.size) k ms) (rising (map (λ (d : Done). d.size) ms))) ≡ contents_of (front ++ ms)
by_size ms front =
    let parts : AreAlike (flat_map (λ k. map (λ (d : Done). d) (filter (λ (d : Done). d.size == k) ms)) (rising (map size_of ms))) (map (λ (d : Done). d) ms) =
    by_parts (λ k (d : Done). d.size == k) (λ (d : Done). d) (rising (map size_of ms)) ms (one_size ms)
    in
    ap (λ ds. contents_of (front ++ ds)) (flat_all (λ k. having size_of k ms) (λ k. map (λ (d : Done). d) (filter (λ (d : Done). d.size == k) ms)) (rising (map size_of ms)) (λ k. sym (map-id (filter (λ (d : Done). d.size == k) ms)))
    ∙ sym (append-nil (flat_map (λ k. map (λ (d : Done). d) (filter (λ (d : Done). d.size == k) ms)) (rising (map size_of ms)))))
    ∙ parts.among front []
    ∙ ap (λ ds. contents_of (front ++ ds)) (append-nil (map (λ (d : Done). d) ms) ∙ map-id ms)

-- and so do their points
pub sized_by_size : (ms front : List Done) → points_from (front ++ flat_map (λ k. having (λ (d : Done). d.size) k ms) (rising (map (λ (d : Done). d.size) ms))) ≡ points_from (front ++ ms)
sized_by_size ms front =
    let parts : AreAlike (flat_map (λ k. map (λ (d : Done). d) (filter (λ (d : Done). d.size == k) ms)) (rising (map size_of ms))) (map (λ (d : Done). d) ms) =
    by_parts (λ k (d : Done). d.size == k) (λ (d : Done). d) (rising (map size_of ms)) ms (one_size ms)
    in
    ap (λ ds. points_from (front ++ ds)) (flat_all (λ k. having size_of k ms) (λ k. map (λ (d : Done). d) (filter (λ (d : Done). d.size == k) ms)) (rising (map size_of ms)) (λ k. sym (map-id (filter (λ (d : Done). d.size == k) ms)))
    ∙ sym (append-nil (flat_map (λ k. map (λ (d : Done). d) (filter (λ (d : Done). d.size == k) ms)) (rising (map size_of ms)))))
    ∙ parts.sizes front []
    ∙ ap (λ ds. points_from (front ++ ds)) (append-nil (map (λ (d : Done). d) ms) ∙ map-id ms)

-- ---- a routine's points are added one by one
pub points_are : (ms : List Done) → points_from ms ≡ map (λ k. point_of k (having (λ (d : Done). d.size) k ms)) (rising (map (λ (d : Done). d.size) ms))
points_are ms = grouped_is size_of point_of ms

module _ (entry : ℕ) (ms : List Done) (entries : All (λ d. d.entry ≡ entry) ms) (ps : List Point) (are : ps ≡ points_from ms) (i : ℕ) (inside : i < length ps) (p : Point) (read : p ≡ get_or ps i p) where
  abbrev ks : List ℕ
  ks = rising (map (λ (d : Done). d.size) ms)

  within : i < length (rising (map (λ (d : Done). d.size) ms))
  within = omega (arith, inside, ap length (are ∙ points_are ms), length-map (rising (map (λ (d : Done). d.size) ms)) (λ k. point_of k (having (λ (d : Done). d.size) k ms)))

  abbrev key : ℕ
  key = get_or (rising (map (λ (d : Done). d.size) ms)) i 0

  is_point : p ≡ point_of key (having (λ (d : Done). d.size) key ms)
  is_point =
      read ∙ ap (λ qs. get_or qs i p) (are ∙ points_are ms)
      ∙ get_or-map (λ k. point_of k (having (λ (d : Done). d.size) k ms)) (rising (map (λ (d : Done). d.size) ms)) i 0 p within

  is_point_of : ArePointOf entry p (having (λ (d : Done). d.size) key ms)
  is_point_of =
      let size : p.size ≡ key = ap (λ (q : Point). q.size) is_point in
      record {
        some = having_some (λ (d : Done). d.size) ms i 0 within;
        entries = All-filter (λ (d : Done). d.size == key) (λ d. d.entry ≡ entry) ms entries;
        sizes = subst (λ n. All (λ (d : Done). d.size ≡ n) (having (λ (d : Done). d.size) key ms)) (sym size) (having_sized key ms);
        point = is_point ∙ ap (λ n. point_of n (having (λ (d : Done). d.size) key ms)) (sym size);
      }

  pub point_step : (added : List Done) (old new : TableContents) → old ≡ contents_of (added ++ flat_map (λ k. having (λ (d : Done). d.size) k ms) (take i (rising (map (λ (d : Done). d.size) ms)))) →
      ((all more : List Done) → old ≡ contents_of all → ArePointOf entry p more → new ≡ contents_of (all ++ more)) →
      new ≡ contents_of (added ++ flat_map (λ k. having (λ (d : Done). d.size) k ms) (take (i + 1) (rising (map (λ (d : Done). d.size) ms))))
  point_step added old new is adds =
      adds (added ++ flat_map (λ k. having (λ (d : Done). d.size) k ms) (take i ks)) (having (λ (d : Done). d.size) key ms) is is_point_of
      ∙ ap contents_of (flat_map_more (λ k. having (λ (d : Done). d.size) k ms) added (take i ks) key
      ∙ ap (λ js. added ++ flat_map (λ k. having (λ (d : Done). d.size) k ms) js) (sym (take_more ks i 0 within)))

-- and at the end they are all there
pub points_all : (ms : List Done) (ps : List Point) (n : ℕ) (added : List Done) (now : TableContents) → ps ≡ points_from ms → length ps ≤ n →
    now ≡ contents_of (added ++ flat_map (λ k. having (λ (d : Done). d.size) k ms) (take n (rising (map (λ (d : Done). d.size) ms)))) → now ≡ contents_of (added ++ ms)
points_all ms ps n added now are all is =
    let ks = rising (map (λ (d : Done). d.size) ms) in
    let long : length (rising (map (λ (d : Done). d.size) ms)) ≤ n = omega (arith, all, ap length (are ∙ points_are ms), length-map (rising (map (λ (d : Done). d.size) ms)) (λ k. point_of k (having (λ (d : Done). d.size) k ms))) in
    is ∙ ap (λ js. contents_of (added ++ flat_map (λ k. having (λ (d : Done). d.size) k ms) js)) (take_all n (rising (map (λ (d : Done). d.size) ms)) long)
    ∙ by_size ms added

-- ---- how many activations they are
calls_sum : (ms : List Done) (ks : List ℕ) → sum_by (λ (p : Point). p.calls) (map (λ k. point_of k (having (λ (d : Done). d.size) k ms)) ks) ≡ length (flat_map (λ k. having (λ (d : Done). d.size) k ms) ks)
calls_sum ms [] = refl
calls_sum ms (k ∷ ks) =
    let part = having (λ (d : Done). d.size) k ms in
    omega (
      arith,
      sum_by-cons (λ (p : Point). p.calls) (point_of k (having (λ (d : Done). d.size) k ms)) (map (λ k. point_of k (having (λ (d : Done). d.size) k ms)) ks),
      length-map (having (λ (d : Done). d.size) k ms) (λ (d : Done). d.cost),
      calls_sum ms ks,
      length-append (having (λ (d : Done). d.size) k ms) (flat_map (λ k. having (λ (d : Done). d.size) k ms) ks),
    )

pub calls_are : (ms : List Done) → sum_by (λ (p : Point). p.calls) (points_from ms) ≡ length ms
calls_are ms =
    ap (sum_by (λ (p : Point). p.calls)) (points_are ms) ∙ calls_sum ms (rising (map (λ (d : Done). d.size) ms)) ∙ ap (λ (t : TableContents). t.members) (by_size ms [])

pub told_points : (ms : List Done) → All (λ p. is_some p.split ≡ true) (points_from ms)
told_points ms = All-grouped (λ (d : Done). d.size) point_of (λ p. is_some p.split ≡ true) ms (λ k some. refl)

pub good_points : (ms : List Done) → All HasParts ms → All IsPoint (points_from ms)
good_points ms parts = All-grouped (λ (d : Done). d.size) point_of IsPoint ms
    (λ k some. IsPoint-of k (having (λ (d : Done). d.size) k ms) some (having_sized k ms) (All-filter (λ (d : Done). d.size == k) HasParts ms parts))

-- ---- each ended activation has one context
pub same_turned : (b c : List ℕ) → same b c ≡ same c b
same_turned b c = by (same b c) (same c b) refl refl
  where
    by : (x y : Bool) → same b c ≡ x → same c b ≡ y → x ≡ y
    by true true is is' = refl
    by false false is is' = refl
    by true false is is' = let there : b ≡ c = told_text b c true (sym is) in let yes = same_told c b (sym there) in absurd (cc)
    by false true is is' = let there : c ≡ b = told_text c b true (sym is') in let yes = same_told b c (sym there) in absurd (cc)

any_turned : (b : List ℕ) (known : List (List ℕ)) → list_any (λ c. same c b) known ≡ list_any (same b) known
any_turned b [] = refl
any_turned b (c ∷ known) = ap₂ (λ x y. x || y) (same_turned c b) (any_turned b known)

module _ (past : List Event) (places : List (ℕ × ℕ)) (stands : by_number.NumbersStandFor places (contexts past)) where
  pub one_context : All (λ (x : List ℕ × Done). IsOfOne (λ c. same c x.0) (contexts past)) (done_in_context past)
  one_context = All-weaker (λ (x : List ℕ × Done). IsKnown (contexts past) x.0) (λ x. IsOfOne (λ c. same c x.0) (contexts past))
      (λ x is. record {
        some = any_turned x.0 (contexts past) ∙ is;
        once = λ i j d less lt yes too.
            let one : get_or (contexts past) i d ≡ x.0 = told_text (get_or (contexts past) i d) x.0 true (sym yes) in
            let two : get_or (contexts past) j d ≡ x.0 = told_text (get_or (contexts past) j d) x.0 true (sym too) in
            absurd (stands.once i j less lt (get_or_default (contexts past) i [] d (omega (arith, less, lt)) ∙ one ∙ sym two ∙ get_or_default (contexts past) j d [] lt));
      }) (done_in_context past) (done_known past)

  -- so the members of all contexts come to all ended activations
  pub by_context : (front : List Done) → contents_of (front ++ flat_map (members_of (done_in_context past)) (contexts past)) ≡ contents_of (front ++ done past)
  by_context front =
      let parts : AreAlike (flat_map (λ c. map (λ (x : List ℕ × Done). x.1) (filter (λ (x : List ℕ × Done). same c x.0) (done_in_context past))) (contexts past)) (map (λ (x : List ℕ × Done). x.1) (done_in_context past)) =
      by_parts (λ c (x : List ℕ × Done). same c x.0) (λ (x : List ℕ × Done). x.1) (contexts past) (done_in_context past) one_context
      in
      ap (λ ds. contents_of (front ++ ds)) (sym (append-nil (flat_map (members_of (done_in_context past)) (contexts past)))) ∙ parts.among front []
      ∙ ap (λ ds. contents_of (front ++ ds)) (append-nil (map (λ (x : List ℕ × Done). x.1) (done_in_context past)) ∙ all_done past)

  -- and those of the first ones are no more than a table takes
  pub few_so_far : IsLight past → (i : ℕ) (c : List ℕ) → i < length (contexts past) → c ≡ get_or (contexts past) i [] →
      length (flat_map (members_of (done_in_context past)) (take i (contexts past))) + length (members_of (done_in_context past) c) < 2 ^ 63
  few_so_far light i c lt is =
      omega (
        arith,
        length-flat_map-take (members_of (done_in_context past)) (contexts past) i [] lt,
        ap (λ (b : List ℕ). length (members_of (done_in_context past) b)) is,
        ap (λ (t : TableContents). t.members) (by_context []),
        few_done past light,
      )

-- ---- the last entry of a context is that of its activations
pub record EndsIn (x : List ℕ × Done) : Type 0 where
  pub front : List ℕ
  pub is : x.0 ≡ front ++ x.1.entry ∷ []

ends_each : (f : Activation → Done) → ((a : Activation) → (f a).entry ≡ a.entry) → (n : ℕ) (calls : List Activation) →
    All EndsIn (zip (map (λ k. context_of (drop k calls)) (range_with_len 0 (length (take n calls)))) (map f (take n calls)))
ends_each f named zero calls = All-nil EndsIn
ends_each f named (suc n) [] = All-nil EndsIn
ends_each f named (suc n) (a ∷ calls) =
    All-cons EndsIn (context_of (a ∷ calls), f a) (zip (map (λ k. context_of (drop k (a ∷ calls))) (range_with_len 1 (length (take n calls)))) (map f (take n calls)))
    (record { front = context_of calls; is = context_more a calls ∙ ap (λ x. context_of calls ++ x ∷ []) (sym (named a)) })
    (subst (λ bs. All EndsIn (zip bs (map f (take n calls)))) (sym (shifted (λ k. context_of (drop k (a ∷ calls))) 0 (length (take n calls)))) (ends_each f named n calls))

ends_of : (e : Event) (past : List Event) (o : Option ℕ) → All EndsIn (zip (contexts_ended e past o) (ended_of past e o))
ends_of e past None = All-nil EndsIn
ends_of e past (Some t) = ends_each (done_of past t) (λ a. refl) (count_ending e t (backs (open_calls past t))) (open_calls past t)

pub all_end : (past : List Event) → All EndsIn (done_in_context past)
all_end [] = All-nil EndsIn
all_end (e ∷ past) = All-append EndsIn (done_in_context past) (zip (contexts_ended e past (thread_of e)) (ended e past)) (all_end past) (ends_of e past (thread_of e))

pub entries_are : (all : List (List ℕ × Done)) (c front : List ℕ) (entry : ℕ) → All EndsIn all → c ≡ front ++ entry ∷ [] → All (λ d. d.entry ≡ entry) (members_of all c)
entries_are [] c front entry ends is = All-nil (λ (d : Done). d.entry ≡ entry)
entries_are (x ∷ xs) c front entry ends is = by (same c x.0) refl (entries_are xs c front entry (All-tail EndsIn x xs ends) is)
  where
    by : (b : Bool) → same c x.0 ≡ b → All (λ (d : Done). d.entry ≡ entry) (members_of xs c) →
        All (λ (d : Done). d.entry ≡ entry) (map (λ (y : List ℕ × Done). y.1) (cond b (x ∷ filter (λ (y : List ℕ × Done). same c y.0) xs) (filter (λ (y : List ℕ × Done). same c y.0) xs)))
    by false other rest = rest
    by true told rest =
        let there : c ≡ x.0 = told_text c x.0 true (sym told) in
        let end = All-head EndsIn x xs ends in
        All-cons (λ (d : Done). d.entry ≡ entry) x.1 (members_of xs c) (same_last end.front front x.1.entry entry (sym end.is ∙ sym there ∙ is)) rest

-- ---- one context after the other
module _ (kept : KeptBranches) (past : List Event) (stands : BranchesStandFor kept past) (i : ℕ) (lt : i < length (contexts past)) (ps : List Point) (read : ps ≡ get_or kept.points i []) where
  abbrev here : List ℕ
  here = get_or (contexts past) i []

  pub list_is : ps ≡ points_from (members_of (done_in_context past) (get_or (contexts past) i []))
  list_is = read ∙ ap (λ ls. get_or ls i []) stands.points_are ∙ get_or-map (points_in past) (contexts past) i [] [] lt

  pub told_here : All (λ p. is_some p.split ≡ true) ps
  told_here = subst (All (λ p. is_some p.split ≡ true)) (sym list_is) (told_points (members_of (done_in_context past) here))

  pub good_here : All IsPoint ps
  good_here = subst (All IsPoint) (sym list_is)
      (good_points (members_of (done_in_context past) here) (of_members HasParts (done_in_context past) here (subst (All HasParts) (sym (all_done past)) (done_has_parts past))))

  pub few_here : IsLight past → (table : TableContents) → table ≡ contents_of (flat_map (members_of (done_in_context past)) (take i (contexts past))) → table.members + sum_by (λ (p : Point). p.calls) ps < 2 ^ 63
  few_here light table is =
      omega (
        arith,
        ap (λ (t : TableContents). t.members) is,
        ap (sum_by (λ (p : Point). p.calls)) list_is,
        calls_are (members_of (done_in_context past) here),
        few_so_far past kept.places stands.contexts_are light i here lt refl,
      )

  pub entries_here : (front : List ℕ) (entry : ℕ) → numbered (contexts past) (i + 1) ≡ front ++ entry ∷ [] → All (λ d. d.entry ≡ entry) (members_of (done_in_context past) (get_or (contexts past) i []))
  entries_here front entry is =
      let next : i + 1 ≡ suc i = omega arith in
      entries_are (done_in_context past) here front entry (all_end past) (sym (ap (numbered (contexts past)) next) ∙ is)

  pub table_step : (new : TableContents) → new ≡ contents_of (flat_map (members_of (done_in_context past)) (take i (contexts past)) ++ members_of (done_in_context past) (get_or (contexts past) i [])) →
      new ≡ contents_of (flat_map (members_of (done_in_context past)) (take (i + 1) (contexts past)))
  table_step new is =
      is ∙ ap contents_of (flat_map_more (members_of (done_in_context past)) [] (take i (contexts past)) here
      ∙ ap (flat_map (members_of (done_in_context past))) (sym (take_more (contexts past) i [] lt)))

pub table_all : (kept : KeptBranches) (past : List Event) (n : ℕ) (table : TableContents) → BranchesStandFor kept past → length (contexts past) ≤ n →
    table ≡ contents_of (flat_map (members_of (done_in_context past)) (take n (contexts past))) → table ≡ contents_of (done past)
table_all kept past n table stands all is =
    is ∙ ap (λ cs. contents_of (flat_map (members_of (done_in_context past)) cs)) (take_all n (contexts past) all) ∙ by_context past kept.places stands.contexts_are []
