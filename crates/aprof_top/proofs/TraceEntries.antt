-- The names that a trace gives: those of all routines of its profile.
use Rattle.std.proofs.Common.{◌≡◌, ◌⊎◌, ℕ, zero, suc, ◌<◌, Bool, true, false, ◌||◌, List, [], ◌∷◌, ◌++◌, length, map, Option, Some, None, refl, sym, ap, ap₂, ◌∙◌, subst, inl, inr, arith, get_or, cond}
use Rattle.std.specs.Prelude.{◌==◌, nat_eq, drop}
use Rattle.std.specs.List.{All, filter, flat_map, list_any}
use Rattle.std.specs.Option.{option_map, option_to_list}
use Rattle.std.proofs.lemmas.Bool.Decides.{nat_tests}
use Rattle.std.proofs.lemmas.List.Elements.{All-append, All-cons, All-drop, All-from_get_or, All-head, All-map, All-nil, All-tail, All-take}
use Rattle.cost_points.specs.Keys.{grouped, insert_rising, rising}
use Rattle.cost_points.specs.Points.{points, routine_of}
use Rattle.cost_points.proofs.Rising.{insert_above, insert_below, insert_same, order}
use Rattle.elf_image.specs.Image.{Executable, name_beside, name_of}
use Rattle.profile_report.specs.Reported.{ReportedRoutine}
use Rattle.stored_traces.specs.Entries.{entries_begun, entry_begun}
use Rattle.trace_model.specs.declared.activations.Activation.{Activation}
use Rattle.trace_model.specs.declared.event_kinds.Event.{Event}
use Rattle.trace_model.specs.declared.event_kinds.Event.TheVariants.{Call, Start}
use Rattle.trace_model.specs.declared.slow_profile.Done.{Done}
use Rattle.trace_model.specs.Activations.{backs, begun, count_ending, ending_calls, open_calls}
use Rattle.trace_model.specs.Cut.{cut}
use Rattle.trace_model.specs.Events.{thread_of}
use Rattle.trace_model.specs.Profile.{done, done_of, ended, ended_of}
use Rattle.aprof_top.specs.Report.{named}
use Rattle.aprof_top.specs.Traces.{named_entries, names_begun}

-- ---- what holds of numbers, and of the same ones rising
module _ (P : ℕ → Type 0) where
  all_inserted : (x : ℕ) (ys : List ℕ) → P x → All P ys → All P (insert_rising x ys)
  all_inserted x [] here all = All-cons P x [] here (All-nil P)
  all_inserted x (y ∷ ys) here all = by (order x y) (all_inserted x ys here (All-tail P y ys all))
    where
      by : (x < y) ⊎ ((x ≡ y) ⊎ (y < x)) → All P (insert_rising x ys) → All P (insert_rising x (y ∷ ys))
      by (inl below) rest = subst (All P) (sym (insert_below x y ys below)) (All-cons P x (y ∷ ys) here all)
      by (inr (inl same)) rest = subst (All P) (sym (insert_same x y ys same)) all
      by (inr (inr above)) rest = subst (All P) (sym (insert_above x y ys above)) (All-cons P y (insert_rising x ys) (All-head P y ys all) rest)

  pub all_rising : (xs : List ℕ) → All P xs → All P (rising xs)
  all_rising [] all = All-nil P
  all_rising (x ∷ xs) all = all_inserted x (rising xs) (All-head P x xs all) (all_rising xs (All-tail P x xs all))

  before_insert : (x : ℕ) (ys : List ℕ) → All P (insert_rising x ys) → P x × All P ys
  before_insert x [] all = (All-head P x [] all, All-nil P)
  before_insert x (y ∷ ys) all = by (order x y) (before_insert x ys)
    where
      by : (x < y) ⊎ ((x ≡ y) ⊎ (y < x)) → (All P (insert_rising x ys) → P x × All P ys) → P x × All P (y ∷ ys)
      by (inl below) rec =
          let both = subst (All P) (insert_below x y ys below) all in
          (All-head P x (y ∷ ys) both, All-tail P x (y ∷ ys) both)
      by (inr (inl same)) rec =
          let both = subst (All P) (insert_same x y ys same) all in
          (subst P (sym same) (All-head P y ys both), both)
      by (inr (inr above)) rec =
          let both = subst (All P) (insert_above x y ys above) all in
          let rest = rec (All-tail P y (insert_rising x ys) both) in
          (rest.0, All-cons P y ys (All-head P y (insert_rising x ys) both) rest.1)

  before_rising : (xs : List ℕ) → All P (rising xs) → All P xs
  before_rising [] all = All-nil P
  before_rising (x ∷ xs) all =
      let parts = before_insert x (rising xs) all in
      All-cons P x xs parts.0 (before_rising xs parts.1)

-- ---- the entries of activations
-- the entries of the activations that begin
abbrev pub begins : List Event → List ℕ
begins past = flat_map (λ e. option_to_list (entry_begun e)) past

module _ (P : ℕ → Type 0) where
  abbrev IsOfEntry : Activation → Type 0
  IsOfEntry a = P a.entry

  begun_if : (b : Bool) (a : Activation) → P a.entry → All IsOfEntry (cond b (a ∷ []) [])
  begun_if true a here = All-cons IsOfEntry a [] here (All-nil IsOfEntry)
  begun_if false a here = All-nil IsOfEntry

  begun_all : (e : Event) (past : List Event) (t at : ℕ) → All P (begins (e ∷ past)) → All IsOfEntry (begun e t at)
  begun_all (Start tid entry) past t at all = begun_if (nat_eq tid t) _ (All-head P entry (begins past) all)
  begun_all (Call tid entry back) past t at all = begun_if (nat_eq tid t) _ (All-head P entry (begins past) all)
  begun_all _ past t at all = All-nil IsOfEntry

  -- those of an earlier past are among them
  earlier : (e : Event) (past : List Event) → All P (begins (e ∷ past)) → All P (begins past)
  earlier (Start tid entry) past all = All-tail P entry (begins past) all
  earlier (Call tid entry back) past all = All-tail P entry (begins past) all
  earlier _ past all = all

  open_all : (past : List Event) (t : ℕ) → All P (begins past) → All IsOfEntry (open_calls past t)
  open_all [] t all = All-nil IsOfEntry
  open_all (e ∷ past) t all =
      let calls = open_calls past t in
      All-append IsOfEntry (begun e t (length past)) (drop (count_ending e t (backs calls)) calls) (begun_all e past t (length past) all)
      (All-drop IsOfEntry (count_ending e t (backs calls)) calls (open_all past t (earlier e past all)))

  abbrev pub IsDoneOf : Done → Type 0
  IsDoneOf d = P d.entry

  ended_all : (past : List Event) (e : Event) (of : Option ℕ) → All P (begins past) → All IsDoneOf (ended_of past e of)
  ended_all past e None all = All-nil IsDoneOf
  ended_all past e (Some t) all =
      let calls = open_calls past t in
      All-map IsDoneOf (done_of past t) (ending_calls e past t) (All-take IsOfEntry (count_ending e t (backs calls)) calls (open_all past t all))

  pub done_all : (past : List Event) → All P (begins past) → All IsDoneOf (done past)
  done_all [] all = All-nil IsDoneOf
  done_all (e ∷ past) all =
      All-append IsDoneOf (done past) (ended e past) (done_all past (earlier e past all)) (ended_all past e (thread_of e) (earlier e past all))

  -- and those of a past that is cut
  pub cut_all : (fits : List Event → Bool) (past : List Event) → All P (begins past) → All P (begins (cut fits past))
  cut_all fits [] all = all
  cut_all fits (e ∷ past) all = by (fits (e ∷ past)) (cut_all fits past (earlier e past all))
    where
      by : (b : Bool) → All P (begins (cut fits past)) → All P (begins (cond b (e ∷ past) (cut fits past)))
      by true rest = all
      by false rest = rest

  keys_all : (past : List Event) → All P (begins past) → All P (rising (map (λ (d : Done). d.entry) (done past)))
  keys_all past all = all_rising P (map (λ (d : Done). d.entry) (done past)) (All-map P (λ (d : Done). d.entry) (done past) (done_all past all))

-- ---- the names
module _ (image : Executable) where
  -- an entry without a name has none among the names of others
  none_named : (es : List ℕ) (x : ℕ) → name_of image x ≡ None → name_beside (named_entries image es) x ≡ None
  none_named [] x none = refl
  none_named (e ∷ es) x none = by (name_of image e) refl (none_named es x none)
    where
      apart : (name : List ℕ) → name_of image e ≡ Some name → (b : Bool) → (e == x) ≡ b → b ≡ false
      apart name is true same =
          let e_is : e ≡ x = grind (arith, nat_tests) in
          absurd (cc (sym none ∙ (ap (name_of image) (sym e_is) ∙ is)))
      apart name is false same = refl

      by : (o : Option (List ℕ)) → name_of image e ≡ o → name_beside (named_entries image es) x ≡ None
          → name_beside (option_to_list (option_map (λ (name : List ℕ). (e, name)) o) ++ named_entries image es) x ≡ None
      by None is rest = rest
      by (Some name) is rest = rw (apart name is (e == x) refl) rest

  -- an entry of the list has its name
  found_named : (es : List ℕ) (x : ℕ) → list_any (λ e. e == x) es ≡ true → name_beside (named_entries image es) x ≡ name_of image x
  found_named [] x inside = absurd (let no : false ≡ true = inside in cc)
  found_named (e ∷ es) x inside = by (e == x) (name_of image e) refl refl inside (found_named es x)
    where
      same : (e == x) ≡ true → e ≡ x
      same is = grind (arith, nat_tests)

      by : (b : Bool) (o : Option (List ℕ)) → (e == x) ≡ b → name_of image e ≡ o → (b || list_any (λ y. y == x) es) ≡ true
          → (list_any (λ y. y == x) es ≡ true → name_beside (named_entries image es) x ≡ name_of image x)
          → name_beside (option_to_list (option_map (λ (name : List ℕ). (e, name)) o) ++ named_entries image es) x ≡ name_of image x
      by true None test is h rec =
          let none : name_of image x ≡ None = ap (name_of image) (sym (same test)) ∙ is in
          none_named es x none ∙ sym none
      by true (Some name) test is h rec = rw test (sym is ∙ ap (name_of image) (same test))
      by false None test is h rec = rec h
      by false (Some name) test is h rec = rw test (rec h)

  at_itself : (es : List ℕ) (i : ℕ) → i < length es → list_any (λ e. e == get_or es i 0) es ≡ true
  at_itself [] i inside = absurd (omega (arith, inside))
  at_itself (e ∷ es) zero inside = rw (self e) refl
    where
      self : (n : ℕ) → (n == n) ≡ true
      self n = grind (arith, nat_tests)
  at_itself (e ∷ es) (suc i) inside = by (e == get_or es i 0) (at_itself es i (omega (arith, inside)))
    where
      by : (b : Bool) → list_any (λ y. y == get_or es i 0) es ≡ true → (b || list_any (λ y. y == get_or es i 0) es) ≡ true
      by true rest = refl
      by false rest = rest

  all_named : (es : List ℕ) → All (λ x. name_beside (named_entries image es) x ≡ name_of image x) es
  all_named es = All-from_get_or (λ x. name_beside (named_entries image es) x ≡ name_of image x) es 0 (λ i inside. found_named es (get_or es i 0) (at_itself es i inside))

  -- routines by keys whose names are the same
  same_routines : (names : List (ℕ × List ℕ)) (make : ℕ → List Done) (keys : List ℕ) → All (λ x. name_beside names x ≡ name_of image x) keys
      → map (named names) (map (λ k. routine_of k (make k)) keys) ≡ map (named image.names) (map (λ k. routine_of k (make k)) keys)
  same_routines names make [] all = refl
  same_routines names make (k ∷ keys) all =
      ap₂ (λ (name : Option (List ℕ)) (rest : List ReportedRoutine). record { entry = k; name = name; points = (routine_of k (make k)).points } ∷ rest)
      (All-head (λ x. name_beside names x ≡ name_of image x) k keys all)
      (same_routines names make keys (All-tail (λ x. name_beside names x ≡ name_of image x) k keys all))

  -- the names of a trace are those of all its routines
  pub names_are : (fits : List Event → Bool) (past : List Event)
      → map (named (names_begun image past)) (points (done (cut fits past))) ≡ map (named image.names) (points (done (cut fits past)))
  unfolding grouped
  names_are fits past =
      let es = entries_begun past in
      let P : ℕ → Type 0 = λ x. name_beside (named_entries image es) x ≡ name_of image x in
      let all = before_rising P (begins past) (all_named es) in
      same_routines (names_begun image past) (λ k. filter (λ (d : Done). d.entry == k) (done (cut fits past)))
      (rising (map (λ (d : Done). d.entry) (done (cut fits past)))) (keys_all P (cut fits past) (cut_all P fits past all))
