-- The way up from a context, and activations that end on it.
use Rattle.std.proofs.Common.{◌≡◌, ◌≢◌, ℕ, zero, suc, ◌+◌, ◌-◌, ◌<◌, ◌≤◌, cond, inl, inr, List, [], ◌∷◌, ◌++◌, length, get_or, set, take, map, refl, sym, ap, ap₂, ◌∙◌, subst, arith, append_assoc}
use Rattle.std.specs.List.{All, filter}
use Rattle.std.proofs.lemmas.Bool.{cases_lt, cases_eq}
use Rattle.std.proofs.lemmas.List.{append-nil, get_or-map, get_or-set_other, get_or-set_same, get_or_default, length-map, length-set, map-append, map-set, same_lists, set-get_or}
use Rattle.std.proofs.lemmas.List.Elements.{All-cons, All-nil, filter-append}
use Rattle.trace_model.specs.declared.slow_profile.Done.{Done}
use Rattle.cost_points.specs.declared.point.Point.{Point}
use Rattle.cost_points.specs.Points.{point_of}
use Rattle.cost_points.proofs.Merged.{sized-more}
use Rattle.context_tree.specs.Contexts.{same}
use Rattle.context_tree.specs.Numbers.{NumbersStandFor, above_of, numbered}
use Rattle.context_tree.specs.Points.{members_of, points_from, points_of}
use Rattle.context_tree.specs.Private.Ways.{ArePoints, HasSpare, IsWay, PointList, lists, no_points, tagged, up, with_ended}
use Rattle.context_tree.proofs.Numbering.{other_told, same_told}

-- ---- the way up
pub up_above : (places : List (ℕ × ℕ)) (n k : ℕ) → up places (above_of places n) k ≡ up places n (suc k)
up_above places n zero = refl
up_above places n (suc k) = ap (above_of places) (up_above places n k)

module _ (places : List (ℕ × ℕ)) (n count : ℕ) (way : IsWay places n count) where
  pub up_within : (k : ℕ) → k ≤ count → up places n k ≤ length places
  up_within zero le = way.within
  up_within (suc k) le = omega (arith, way.falls k (omega (arith, le)), up_within k (omega (arith, le)))

  pub up_falls : (j k : ℕ) → j < k → k ≤ count → up places n k < up places n j
  up_falls j zero lt le = absurd (omega (arith, lt))
  up_falls j (suc k) lt le = elim (cases_lt j k) [
    | inl less ↦ omega (arith, way.falls k (omega (arith, le)), up_falls j k less (omega (arith, le)))
    | inr more ↦
        let is : j ≡ k = omega (arith, lt, more) in
        subst (λ i. up places n (suc k) < up places n i) (sym is) (way.falls k (omega (arith, le)))
  ]

-- ---- one more member of a context
module _ (all : List (List ℕ × Done)) (b : List ℕ) (d : Done) where
  abbrev more : List (List ℕ × Done)
  more = all ++ (b, d) ∷ []

  members_own : members_of (all ++ (b, d) ∷ []) b ≡ members_of all b ++ d ∷ []
  members_own =
      let one : filter (λ (x : List ℕ × Done). same b x.0) ((b, d) ∷ []) ≡ (b, d) ∷ [] =
      ap (λ t. cond t ((b, d) ∷ []) []) (same_told b b refl) in
      ap (map (λ x. x.1)) (filter-append (λ (x : List ℕ × Done). same b x.0) all ((b, d) ∷ []) ∙ ap (λ xs. filter (λ (x : List ℕ × Done). same b x.0) all ++ xs) one)
      ∙ map-append (λ x. x.1) (filter (λ (x : List ℕ × Done). same b x.0) all) ((b, d) ∷ [])

  members_other : (c : List ℕ) → c ≢ b → members_of (all ++ (b, d) ∷ []) c ≡ members_of all c
  members_other c other =
      let none : filter (λ (x : List ℕ × Done). same c x.0) ((b, d) ∷ []) ≡ [] =
      ap (λ t. cond t ((b, d) ∷ []) []) (other_told c b other) in
      ap (map (λ x. x.1)) (filter-append (λ (x : List ℕ × Done). same c x.0) all ((b, d) ∷ [])
      ∙ ap (λ xs. filter (λ (x : List ℕ × Done). same c x.0) all ++ xs) none ∙ append-nil (filter (λ (x : List ℕ × Done). same c x.0) all))

  pub points_own : points_of (all ++ (b, d) ∷ []) b ≡ with_ended d (points_of all b)
  points_own =
      ap (λ ds. points_from ds) members_own
      ∙ sized-more (point_of d.size (d ∷ [])) (members_of all b) (d ∷ []) (omega arith) (All-cons (λ (e : Done). e.size ≡ d.size) d [] refl (All-nil (λ (e : Done). e.size ≡ d.size))) refl

  pub points_other : (c : List ℕ) → c ≢ b → points_of (all ++ (b, d) ∷ []) c ≡ points_of all c
  points_other c other = ap (λ ds. points_from ds) (members_other c other)

-- ---- one more member among the points of all contexts
module _ (places : List (ℕ × ℕ)) (contexts : List (List ℕ)) (stands : NumbersStandFor places contexts) (all : List (List ℕ × Done)) (d : Done) where
  apart : (i j : ℕ) → j ≢ i → i < length contexts → j < length contexts → get_or contexts j [] ≢ get_or contexts i []
  apart i j other i_in j_in is = elim (cases_lt i j) [
    | inl lt ↦ absurd (stands.once i j lt j_in (sym is))
    | inr le ↦ absurd (stands.once j i (omega (arith, le, other)) i_in is)
  ]

  pub points_step : (ls : List (List Point)) (n : ℕ) → 1 ≤ n → n ≤ length contexts → ls ≡ map (points_of all) contexts →
      set ls (n - 1) (with_ended d (get_or ls (n - 1) [])) ≡ map (points_of (all ++ (numbered contexts n, d) ∷ [])) contexts
  points_step ls zero some within are = absurd (omega (arith, some))
  points_step ls (suc i) some within are =
      let at : suc i - 1 ≡ i = omega arith in
      subst (λ j. set ls j (with_ended d (get_or ls j [])) ≡ map (points_of (all ++ (get_or contexts i [], d) ∷ [])) contexts) (sym at)
      (same_lists (set ls i (with_ended d (get_or ls i []))) (map (points_of (all ++ (get_or contexts i [], d) ∷ [])) contexts) long each)
    where
      inside : i < length contexts
      inside = omega (arith, within)

      len : length ls ≡ length contexts
      len = ap length are ∙ length-map contexts (points_of all)

      long : length (set ls i (with_ended d (get_or ls i []))) ≡ length (map (points_of (all ++ (get_or contexts i [], d) ∷ [])) contexts)
      long = length-set ls i (with_ended d (get_or ls i [])) ∙ len ∙ sym (length-map contexts (points_of (all ++ (get_or contexts i [], d) ∷ [])))

      before : (k : ℕ) → k < length contexts → get_or ls k [] ≡ points_of all (get_or contexts k [])
      before k lt = ap (λ xs. get_or xs k []) are ∙ get_or-map (points_of all) contexts k [] [] lt

      after : (k : ℕ) (e : List Point) → k < length contexts → get_or (map (points_of (all ++ (get_or contexts i [], d) ∷ [])) contexts) k e ≡ points_of (all ++ (get_or contexts i [], d) ∷ []) (get_or contexts k [])
      after k e lt = get_or-map (points_of (all ++ (get_or contexts i [], d) ∷ [])) contexts k [] e lt

      each : (k : ℕ) (e : List Point) → k < length (set ls i (with_ended d (get_or ls i []))) →
          get_or (set ls i (with_ended d (get_or ls i []))) k e ≡ get_or (map (points_of (all ++ (get_or contexts i [], d) ∷ [])) contexts) k e
      each k e lt =
          let k_in : k < length contexts = omega (arith, lt, length-set ls i (with_ended d (get_or ls i [])), len) in
          elim (cases_eq k i) [
            | inl is ↦
                subst (λ j. get_or (set ls i (with_ended d (get_or ls i []))) j e ≡ get_or (map (points_of (all ++ (get_or contexts i [], d) ∷ [])) contexts) j e) (sym is)
                (get_or-set_same ls i (with_ended d (get_or ls i [])) e (omega (arith, inside, len)) ∙ ap (with_ended d) (before i inside)
                ∙ sym (points_own all (get_or contexts i []) d) ∙ sym (after i e inside))
            | inr other ↦
                get_or-set_other ls i k (with_ended d (get_or ls i [])) e other ∙ get_or_default ls k e [] (omega (arith, k_in, len)) ∙ before k k_in
                ∙ sym (points_other all (get_or contexts i []) d (get_or contexts k []) (apart i k other inside k_in)) ∙ sym (after k e k_in)
          ]

-- ---- the members on the way, one after the other
pub tagged_more : (places : List (ℕ × ℕ)) (contexts : List (List ℕ)) (n : ℕ) (ds : List Done) (k : ℕ) (d : Done) → k < length ds →
    tagged places contexts n (take (k + 1) ds) ≡ tagged places contexts n (take k ds) ++ (numbered contexts (up places n k), get_or ds k d) ∷ []
tagged_more places contexts n [] k d lt = absurd (omega (arith, lt))
tagged_more places contexts n (e ∷ ds) zero d lt = refl
tagged_more places contexts n (e ∷ ds) (suc k) d lt =
    let next : suc k + 1 ≡ suc (k + 1) = omega arith in
    ap (λ m. tagged places contexts n (take m (e ∷ ds))) next
    ∙ ap (λ xs. (numbered contexts n, e) ∷ xs)
    (tagged_more places contexts (above_of places n) ds k d (omega (arith, lt))
    ∙ ap (λ m. tagged places contexts (above_of places n) (take k ds) ++ (numbered contexts m, get_or ds k d) ∷ []) (up_above places n k))

-- ---- one context among all
module _ (items : List PointList) (i : ℕ) (inside : i < length items) (old new : PointList) (read : old ≡ get_or items i old) where
  pub there_is : old.points ≡ get_or (lists items) i []
  there_is = ap (λ (p : PointList). p.points) read ∙ sym (get_or-map (λ (p : PointList). p.points) items i old [] inside)

  pub lists_set : lists (set items i new) ≡ set (lists items) i new.points
  lists_set = map-set (λ (p : PointList). p.points) items i new

  -- with the points that it had
  pub lists_kept : new.points ≡ old.points → lists (set items i new) ≡ lists items
  lists_kept is = lists_set ∙ ap (set (lists items) i) (is ∙ there_is) ∙ set-get_or (lists items) i []

-- ---- on the way up
module _ (places : List (ℕ × ℕ)) (from count k n : ℕ) (way : IsWay places from count) (lt : k < count) (at : n ≡ up places from k) where
  pub some_there : 1 ≤ n
  some_there = let falls = way.falls k lt in omega (arith, falls, at)

  pub still_within : n ≤ length places
  still_within = omega (arith, up_within places from count way k (omega (arith, lt)), at)

  pub next_up : (m : ℕ) → m ≡ (get_or places (n - 1) (0, 0)).0 → m ≡ up places from (k + 1)
  next_up m is =
      let next : k + 1 ≡ suc k = omega arith in
      is ∙ ap (above_of places) at ∙ ap (up places from) (sym next)

  pub next_falls : (m : ℕ) → m ≡ (get_or places (n - 1) (0, 0)).0 → m < n
  next_falls m is =
      let falls = way.falls k lt in
      let up_is : m ≡ up places from (suc k) = is ∙ ap (above_of places) at in
      omega (arith, falls, at, up_is)

  -- one more of them has room
  pub spare_more : (items : List PointList) (new : PointList) → length items ≡ length places → 1 ≤ new.room → HasSpare items places from k →
      HasSpare (set items (n - 1) new) places from (k + 1)
  spare_more items new long room spare = λ j less. elim (cases_eq (up places from j - 1) (n - 1)) [
    | inl is ↦
        subst (λ i. 1 ≤ (get_or (set items (n - 1) new) i no_points).room) (sym is)
        (subst (λ (p : PointList). 1 ≤ p.room) (sym (get_or-set_same items (n - 1) new no_points (omega (arith, long, still_within, some_there)))) room)
    | inr other ↦
        subst (λ (p : PointList). 1 ≤ p.room) (sym (get_or-set_other items (n - 1) (up places from j - 1) new no_points other))
        (elim (cases_lt j k) [
          | inl below ↦ spare j below
          | inr above ↦ absurd (other (let is : j ≡ k = omega (arith, less, above) in ap (λ i. up places from i - 1) is ∙ ap (λ m. m - 1) (sym at)))
        ])
  ]

  -- those below it are as they were
  module _ (first items : List PointList) (long : length items ≡ length places) (below : (i : ℕ) → i < n → get_or items i no_points ≡ get_or first i no_points) where
    pub below_more : (m : ℕ) (new : PointList) → m ≡ (get_or places (n - 1) (0, 0)).0 → (i : ℕ) → i < m → get_or (set items (n - 1) new) i no_points ≡ get_or first i no_points
    below_more m new is i less =
        let falls : m < n = next_falls m is in
        get_or-set_other items (n - 1) i new no_points (λ same. absurd (omega (arith, same, less, falls))) ∙ below i (omega (arith, less, falls))

    first_there : (old : PointList) → old ≡ get_or items (n - 1) old → old ≡ get_or first (n - 1) no_points
    first_there old read =
        let inside : n - 1 < length items = omega (arith, long, still_within, some_there) in
        read ∙ get_or_default items (n - 1) old no_points inside ∙ below (n - 1) (omega (arith, some_there))

    pub are_points : (old : PointList) → old ≡ get_or items (n - 1) old → length first ≡ length places → All ArePoints (lists first) → ArePoints old.points
    are_points old read whole each =
        let inside : n - 1 < length first = omega (arith, whole, still_within, some_there) in
        subst ArePoints (sym (ap (λ (p : PointList). p.points) (first_there old read) ∙ sym (get_or-map (λ (p : PointList). p.points) first (n - 1) no_points [] inside)))
        (each (n - 1) [] (omega (arith, inside, length-map first (λ (p : PointList). p.points))))

    pub has_room : (old : PointList) → old ≡ get_or items (n - 1) old → HasSpare first places from count → 1 ≤ old.room
    has_room old read spare =
        subst (λ (p : PointList). 1 ≤ p.room) (sym (first_there old read ∙ ap (λ m. get_or first (m - 1) no_points) at)) (spare k lt)

    pub points_more : (old new : PointList) (ended : List Done) (d : Done) → count ≡ length ended → old ≡ get_or items (n - 1) old → d ≡ get_or ended k d → new.points ≡ with_ended d old.points →
        (contexts : List (List ℕ)) (members : List (List ℕ × Done)) → NumbersStandFor places contexts →
        lists items ≡ map (points_of (members ++ tagged places contexts from (take k ended))) contexts →
        lists (set items (n - 1) new) ≡ map (points_of (members ++ tagged places contexts from (take (k + 1) ended))) contexts
    points_more old new ended d all read here added contexts members stands are =
        let inside : n - 1 < length items = omega (arith, long, still_within, some_there) in
        let so_far = tagged places contexts from (take k ended) in
        lists_set items (n - 1) inside old new read
        ∙ ap (set (lists items) (n - 1)) (added ∙ ap (with_ended d) (there_is items (n - 1) inside old new read))
        ∙ points_step places contexts stands (members ++ so_far) d (lists items) n some_there (omega (arith, still_within, stands.long)) are
        ∙ ap (λ xs. map (points_of xs) contexts)
        (append_assoc members so_far ((numbered contexts n, d) ∷ [])
        ∙ ap (λ xs. members ++ xs)
        (ap (λ (x : List ℕ × Done). so_far ++ x ∷ []) (ap₂ (λ m e. (numbered contexts m, e)) at here) ∙ sym (tagged_more places contexts from ended k d (omega (arith, lt, all)))))
