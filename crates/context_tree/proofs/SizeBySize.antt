-- The points of the contexts of a routine, put together size by size, are those of the routine.
use Rattle.std.proofs.Common.{◌≡◌, ℕ, ◌<◌, ◌≤◌, ◌≢◌, Bool, true, false, cond, List, [], ◌∷◌, ◌++◌, length, map, refl, sym, ap, ◌∙◌, subst, arith, append_assoc}
use Rattle.std.specs.Prelude.{◌==◌, ◌||◌}
use Rattle.std.specs.List.{All, filter, flat_map, fold, list_any}
use Rattle.std.proofs.lemmas.Bool.Decides.{nat_tests}
use Rattle.std.proofs.lemmas.List.{append-nil}
use Rattle.std.proofs.lemmas.List.Elements.{All-cons, All-head, All-nil, All-tail, filter-append}
use Rattle.std.proofs.lemmas.List.Sums.{fold-append}
use Rattle.trace_model.specs.declared.event_kinds.Event.{Event}
use Rattle.trace_model.specs.declared.slow_profile.Done.{Done}
use Rattle.cost_points.specs.declared.point.Point.{Point}
use Rattle.cost_points.specs.Contents.{TableContents}
use Rattle.cost_points.specs.Keys.{IsRising, rising}
use Rattle.cost_points.specs.Points.{Routine, point_of, points, routine_of}
use Rattle.cost_points.proofs.Bounds.{having_sized}
use Rattle.cost_points.proofs.Grouped.{grouped_is, having, having_none, having_some}
use Rattle.cost_points.proofs.Merged.{sized-more}
use Rattle.cost_points.proofs.Rising.{IsRising-above, IsRising-rising, IsRising-tail}
use Rattle.context_tree.specs.Contexts.{contexts}
use Rattle.context_tree.specs.Laws.{context_points, is_of, routine_points, together, with_more}
use Rattle.context_tree.specs.Points.{done_in_context, members_of, points_from}
use Rattle.context_tree.proofs.AddingUp.{members_named}
use Rattle.context_tree.proofs.Following.{no_points}
use Rattle.context_tree.proofs.Standing.{have_places}
use Rattle.context_tree.proofs.Summing.{all_end, by_context, points_are, sized_by_size}

-- ---- the points of some activations come to those of others one by one
module _ (ms added : List Done) where
  one_more : (k : ℕ) (front : List Done) → 1 ≤ length (having (λ (d : Done). d.size) k ms) →
      with_more (points_from (added ++ front)) (point_of k (having (λ (d : Done). d.size) k ms)) ≡ points_from (added ++ (front ++ having (λ (d : Done). d.size) k ms))
  one_more k front some =
      sym (sized-more (point_of k (having (λ (d : Done). d.size) k ms)) (added ++ front) (having (λ (d : Done). d.size) k ms) some (having_sized k ms) refl)
      ∙ ap points_from (append_assoc added front (having (λ (d : Done). d.size) k ms))

  by_keys : (ks : List ℕ) (front : List Done) → All (λ k. 1 ≤ length (having (λ (d : Done). d.size) k ms)) ks →
      fold with_more (points_from (added ++ front)) (map (λ k. point_of k (having (λ (d : Done). d.size) k ms)) ks) ≡ points_from (added ++ (front ++ flat_map (λ k. having (λ (d : Done). d.size) k ms) ks))
  by_keys [] front all = ap (λ ds. points_from (added ++ ds)) (sym (append-nil front))
  by_keys (k ∷ ks) front all =
      let part = having (λ (d : Done). d.size) k ms in
      ap (λ ps. fold with_more ps (map (λ j. point_of j (having (λ (d : Done). d.size) j ms)) ks)) (one_more k front (All-head (λ j. 1 ≤ length (having (λ (d : Done). d.size) j ms)) k ks all))
      ∙ by_keys ks (front ++ part) (All-tail (λ j. 1 ≤ length (having (λ (d : Done). d.size) j ms)) k ks all)
      ∙ ap (λ ds. points_from (added ++ ds)) (append_assoc front part (flat_map (λ j. having (λ (d : Done). d.size) j ms) ks))

  with_all : fold with_more (points_from added) (points_from ms) ≡ points_from (added ++ ms)
  with_all =
      ap (λ ds. fold with_more (points_from ds) (points_from ms)) (sym (append-nil added))
      ∙ ap (fold with_more (points_from (added ++ []))) (points_are ms)
      ∙ by_keys (rising (map (λ (d : Done). d.size) ms)) [] (having_some (λ (d : Done). d.size) ms)
      ∙ sized_by_size ms added

-- and those of lists of activations, list by list
with_lists : {K : Type 0} (members : K → List Done) (ks : List K) (added : List Done) →
    fold with_more (points_from added) (flat_map (λ k. points_from (members k)) ks) ≡ points_from (added ++ flat_map members ks)
with_lists members [] added = ap points_from (sym (append-nil added))
with_lists members (k ∷ ks) added =
    fold-append with_more (points_from added) (points_from (members k)) (flat_map (λ j. points_from (members j)) ks)
    ∙ ap (λ ps. fold with_more ps (flat_map (λ j. points_from (members j)) ks)) (with_all (members k) added)
    ∙ with_lists members ks (added ++ members k)
    ∙ ap points_from (append_assoc added (members k) (flat_map members ks))

together_of : {K : Type 0} (members : K → List Done) (ks : List K) → together (flat_map (λ k. points_from (members k)) ks) ≡ points_from (flat_map members ks)
together_of members ks = ap (λ ps. fold with_more ps (flat_map (λ k. points_from (members k)) ks)) (sym no_points) ∙ with_lists members ks []

-- ---- the points of a routine are those of its activations
module _ (entry : ℕ) where
  none_there : (ks : List ℕ) → All (λ k. entry < k) ks → list_any (λ k. k == entry) ks ≡ false
  none_there [] above = refl
  none_there (k ∷ ks) above =
      let other : (k == entry) ≡ false = let lt : entry < k = All-head (λ j. entry < j) k ks above in grind (arith, nat_tests, lt) in
      ap (λ b. b || list_any (λ j. j == entry) ks) other ∙ none_there ks (All-tail (λ j. entry < j) k ks above)

  others : (ks : List ℕ) → list_any (λ k. k == entry) ks ≡ false → All (λ k. k ≢ entry) ks
  others [] none = All-nil (λ k. k ≢ entry)
  others (k ∷ ks) none = by (k == entry) refl none (λ less. others ks less)
    where
      by : (b : Bool) → (k == entry) ≡ b → (b || list_any (λ j. j == entry) ks) ≡ false → (list_any (λ j. j == entry) ks ≡ false → All (λ j. j ≢ entry) ks) → All (λ j. j ≢ entry) (k ∷ ks)
      by true is less rest = absurd (cc)
      by false is less rest = All-cons (λ j. j ≢ entry) k ks (λ same. let yes : (k == entry) ≡ true = grind (arith, nat_tests, same) in absurd (cc)) (rest less)

  module _ (all : List Done) where
    abbrev made : ℕ → Routine
    made k = routine_of k (having (λ (d : Done). d.entry) k all)

    abbrev chosen : List ℕ → List Point
    chosen ks = flat_map (λ (r : Routine). r.points) (filter (λ (r : Routine). r.entry == entry) (map (λ k. routine_of k (having (λ (d : Done). d.entry) k all)) ks))

    among : (ks : List ℕ) → IsRising ks → chosen ks ≡ cond (list_any (λ k. k == entry) ks) (points_from (having (λ (d : Done). d.entry) entry all)) []
    among [] up = refl
    among (k ∷ ks) up = by (k == entry) refl (among ks (IsRising-tail k ks up))
      where
        by : (b : Bool) → (k == entry) ≡ b → chosen ks ≡ cond (list_any (λ j. j == entry) ks) (points_from (having (λ (d : Done). d.entry) entry all)) [] →
            flat_map (λ (r : Routine). r.points) (cond b (made k ∷ filter (λ (r : Routine). r.entry == entry) (map made ks)) (filter (λ (r : Routine). r.entry == entry) (map made ks)))
            ≡ cond (b || list_any (λ j. j == entry) ks) (points_from (having (λ (d : Done). d.entry) entry all)) []
        by false is rest = rest
        by true is rest =
            let here : k ≡ entry = grind (arith, nat_tests, is) in
            let none : list_any (λ j. j == entry) ks ≡ false = none_there ks (subst (λ n. All (λ j. n < j) ks) here (IsRising-above k ks up)) in
            ap (λ ps. points_from (having (λ (d : Done). d.entry) k all) ++ ps) (rest ∙ ap (λ b. cond b (points_from (having (λ (d : Done). d.entry) entry all)) []) none)
            ∙ append-nil (points_from (having (λ (d : Done). d.entry) k all))
            ∙ ap (λ n. points_from (having (λ (d : Done). d.entry) n all)) here

    of_routine : flat_map (λ (r : Routine). r.points) (filter (λ (r : Routine). r.entry == entry) (points all)) ≡ points_from (having (λ (d : Done). d.entry) entry all)
    of_routine =
        let ks = rising (map (λ (d : Done). d.entry) all) in
        ap (λ (rs : List Routine). flat_map (λ (r : Routine). r.points) (filter (λ (r : Routine). r.entry == entry) rs)) (grouped_is (λ (d : Done). d.entry) routine_of all)
        ∙ among (rising (map (λ (d : Done). d.entry) all)) (IsRising-rising (map (λ (d : Done). d.entry) all))
        ∙ by (list_any (λ k. k == entry) ks) refl
      where
        by : (b : Bool) → list_any (λ k. k == entry) (rising (map (λ (d : Done). d.entry) all)) ≡ b → cond b (points_from (having (λ (d : Done). d.entry) entry all)) [] ≡ points_from (having (λ (d : Done). d.entry) entry all)
        by true is = refl
        by false is =
            sym no_points ∙ ap points_from (sym (having_none (λ (d : Done). d.entry) all entry (others (rising (map (λ (d : Done). d.entry) all)) is)))

  -- the activations of the routine's contexts are those of the routine
  all_kept : (ms : List Done) → All (λ (d : Done). (d.entry == entry) ≡ true) ms → having (λ (d : Done). d.entry) entry ms ≡ ms
  all_kept [] all = refl
  all_kept (d ∷ ds) all =
      ap (λ b. cond b (d ∷ having (λ (e : Done). e.entry) entry ds) (having (λ (e : Done). e.entry) entry ds)) (All-head (λ (e : Done). (e.entry == entry) ≡ true) d ds all)
      ∙ ap (λ es. d ∷ es) (all_kept ds (All-tail (λ (e : Done). (e.entry == entry) ≡ true) d ds all))

  none_kept : (ms : List Done) → All (λ (d : Done). (d.entry == entry) ≡ false) ms → having (λ (d : Done). d.entry) entry ms ≡ []
  none_kept [] all = refl
  none_kept (d ∷ ds) all =
      ap (λ b. cond b (d ∷ having (λ (e : Done). e.entry) entry ds) (having (λ (e : Done). e.entry) entry ds)) (All-head (λ (e : Done). (e.entry == entry) ≡ false) d ds all)
      ∙ none_kept ds (All-tail (λ (e : Done). (e.entry == entry) ≡ false) d ds all)

  module _ {K : Type 0} (members : K → List Done) (q : K → Bool) (named : (k : K) → All (λ (d : Done). (d.entry == entry) ≡ q k) (members k)) where
    own : (ks : List K) → having (λ (d : Done). d.entry) entry (flat_map members ks) ≡ flat_map members (filter q ks)
    own [] = refl
    own (k ∷ ks) =
        filter-append (λ (d : Done). d.entry == entry) (members k) (flat_map members ks)
        ∙ ap (λ ds. having (λ (d : Done). d.entry) entry (members k) ++ ds) (own ks)
        ∙ by (q k) (named k)
      where
        by : (b : Bool) → All (λ (d : Done). (d.entry == entry) ≡ b) (members k) →
            having (λ (d : Done). d.entry) entry (members k) ++ flat_map members (filter q ks) ≡ flat_map members (cond b (k ∷ filter q ks) (filter q ks))
        by true all = ap (λ ds. ds ++ flat_map members (filter q ks)) (all_kept (members k) all)
        by false all = ap (λ ds. ds ++ flat_map members (filter q ks)) (none_kept (members k) all)

pub contexts_together : (past : List Event) (entry : ℕ) → together (context_points past entry) ≡ routine_points past entry
contexts_together past entry =
    let have = have_places past in
    let members = members_of (done_in_context past) in
    together_of (members_of (done_in_context past)) (filter (is_of entry) (contexts past))
    ∙ ap points_from (sym (own entry members (is_of entry) (λ c. members_named entry (done_in_context past) c (all_end past)) (contexts past)))
    ∙ sym (of_routine entry (flat_map (members_of (done_in_context past)) (contexts past)))
    ∙ ap (λ (t : TableContents). flat_map (λ (r : Routine). r.points) (filter (λ (r : Routine). r.entry == entry) t.routines)) (by_context past have.places have.stands [])
