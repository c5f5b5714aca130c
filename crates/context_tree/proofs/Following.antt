-- What an event does to the tree.
use Rattle.std.proofs.Common.{◌≡◌, ℕ, zero, suc, ◌+◌, ◌-◌, ◌<◌, ◌≤◌, max, min, Bool, true, false, cond, All, List, [], ◌∷◌, ◌++◌, length, get_or, take, drop, map, Option, Some, None, refl, sym, ap, ap₂, ◌∙◌, subst, arith, length-append, not}
use Rattle.std.specs.Prelude.{◌==◌, ◌||◌, ◌&&◌, nat_eq, is_some, Result, Ok, Err, IsOk, OnOk}
use Rattle.std.specs.List.{list_any, range_with_len, zip}
use Rattle.std.specs.Option.{option_map_or}
use Rattle.std.proofs.lemmas.Bool.{eq-eqb}
use Rattle.std.proofs.lemmas.Bool.Decides.{nat_tests}
use Rattle.std.proofs.lemmas.List.{append-nil, drop-drop, drop_all, drop_min, get_or-map, get_or_append_left, length-drop, length-map, length-take, map-append, reverse-append}
use Rattle.std.proofs.lemmas.List.Elements.{All-map, All-push, All-same, All-weaker}
use Rattle.guest_words.specs.ByThread.{numbers, value_of, with_value, without_thread}
use Rattle.guest_words.proofs.ThreadTables.{All-numbers-without, numbers-with, value_of-above, value_of-pushed, value_of-with, value_of-without}
use Rattle.trace_model.specs.declared.event_kinds.Event.{Event}
use Rattle.trace_model.specs.declared.event_kinds.Event.TheVariants.{Step, Read, Write, Fill, Call, Ret, Start, End}
use Rattle.trace_model.specs.declared.activations.Activation.{Activation}
use Rattle.trace_model.specs.declared.slow_profile.Done.{Done}
use Rattle.trace_model.specs.Activations.{backs, count_ending, count_returned, open_calls}
use Rattle.trace_model.specs.Profile.{done_of, ended}
use Rattle.trace_model.specs.WellFormed.{IsLight, greatest_start, is_live}
use Rattle.cost_points.specs.declared.point.Point.{Point}
use Rattle.cost_points.specs.Keys.{grouped}
use Rattle.guest_words.specs.declared.limits.TheConstants.{CONTEXTS}
use Rattle.context_tree.specs.Contexts.{context_of, contexts, same, with_context}
use Rattle.context_tree.specs.Links.{IsLinked}
use Rattle.context_tree.specs.Numbers.{IsNumberOf, above_of, numbered}
use Rattle.context_tree.specs.Numbers as by_number
use Rattle.context_tree.specs.Points.{done_in_context, points_from, points_in, points_of}
use Rattle.context_tree.specs.Branches.{KeptBranches, BranchesStandFor, current_of}
use Rattle.context_tree.specs.Private.Adding.{with_list}
use Rattle.context_tree.specs.Private.Ways.{ArePoints, IsWay, tagged, up}
use Rattle.context_tree.proofs.Before.{same_number}
use Rattle.context_tree.proofs.Known.{done_known, no_members}
use Rattle.context_tree.proofs.Numbering.{not_none, same_front}
use Rattle.context_tree.proofs.Rooms.{rooms}

-- ---- contexts of activations
pub context_more : (a : Activation) (calls : List Activation) → context_of (a ∷ calls) ≡ context_of calls ++ a.entry ∷ []
context_more a calls = reverse-append (a.entry ∷ []) (map (λ (b : Activation). b.entry) calls)

pub shifted : {X : Type 0} (f : ℕ → X) (i m : ℕ) → map f (range_with_len (i + 1) m) ≡ map (λ k. f (suc k)) (range_with_len i m)
shifted f i zero = refl
shifted f i (suc m) = ap₂ (λ x xs. x ∷ xs) (ap f (omega arith)) (shifted f (i + 1) m)

module _ (places : List (ℕ × ℕ)) (known : List (List ℕ)) (stands : by_number.NumbersStandFor places known) where
  -- the one above, by number
  up_one : (n : ℕ) (a : Activation) (calls : List Activation) → n ≤ length known → numbered known n ≡ context_of (a ∷ calls) →
      (above_of places n < n) × (numbered known (above_of places n) ≡ context_of calls)
  up_one zero a calls within is = absurd (not_none (context_of calls) a.entry (is ∙ context_more a calls))
  up_one (suc i) a calls within is =
      let at : suc i - 1 ≡ i = omega arith in
      let inside : i < length known = omega (arith, within) in
      subst (λ j. ((get_or places j (0, 0)).0 < suc i) × (numbered known (get_or places j (0, 0)).0 ≡ context_of calls)) (sym at)
      (omega (arith, stands.above i inside), same_front (numbered known (get_or places i (0, 0)).0) (context_of calls) (get_or places i (0, 0)).1 a.entry (sym (stands.each i inside) ∙ is ∙ context_more a calls))

  up_in : (n : ℕ) (calls : List Activation) → 1 ≤ length calls → n ≤ length known → numbered known n ≡ context_of calls →
      (above_of places n < n) × (numbered known (above_of places n) ≡ context_of (drop 1 calls))
  up_in n [] some within is = absurd (omega (arith, some))
  up_in n (a ∷ calls) some within is = up_one n a calls within is

  pub record IsUp (n k : ℕ) (calls : List Activation) : Type 0 where
    pub within : up places n k ≤ length known
    pub is : numbered known (up places n k) ≡ context_of (drop k calls)

  pub up_is : (n : ℕ) (calls : List Activation) → n ≤ length known → numbered known n ≡ context_of calls → (k : ℕ) → k ≤ length calls → IsUp n k calls
  up_is n calls within is zero le = record { within = within; is = is }
  up_is n calls within is (suc k) le =
      let below = up_is n calls within is k (omega (arith, le)) in
      let next = up_in (up places n k) (drop k calls) (omega (arith, le, length-drop k calls)) below.within below.is in
      let one : k + 1 ≡ suc k = omega arith in
      record {
        within = omega (arith, next.0, below.within);
        is = next.1 ∙ ap context_of (drop-drop 1 k calls) ∙ ap (λ j. context_of (drop j calls)) one;
      }

  pub way_of : (n count : ℕ) (calls : List Activation) → n ≤ length known → numbered known n ≡ context_of calls → count ≤ length calls → IsWay places n count
  way_of n count calls within is le = record {
    within = omega (arith, within, stands.long);
    falls = λ k lt.
        let here = up_is n calls within is k (omega (arith, lt, le)) in
        (up_in (up places n k) (drop k calls) (omega (arith, lt, le, length-drop k calls)) here.within here.is).0;
  }

  -- the members on the way are the activations with their contexts
  pub tagged_is : (ds : List Done) (n : ℕ) (calls : List Activation) → length ds ≤ length calls → n ≤ length known → numbered known n ≡ context_of calls →
      tagged places known n ds ≡ zip (map (λ k. context_of (drop k calls)) (range_with_len 0 (length ds))) ds
  tagged_is [] n calls le within is = refl
  tagged_is (d ∷ ds) n [] le within is = absurd (omega (arith, le))
  tagged_is (d ∷ ds) n (a ∷ calls) le within is =
      let next = up_one n a calls within is in
      ap₂ (λ (x : List ℕ × Done) (xs : List (List ℕ × Done)). x ∷ xs) (ap (λ (b : List ℕ). (b, d)) is)
      (tagged_is ds (above_of places n) calls (omega (arith, le)) (omega (arith, next.0, within)) next.1
      ∙ ap (λ bs. zip bs ds) (sym (shifted (λ k. context_of (drop k (a ∷ calls))) 0 (length ds))))

-- ---- threads and their contexts
turned : (n m : ℕ) (b : Bool) → (n == m) ≡ b → nat_eq m n ≡ b
turned n m true is = let same : n ≡ m = same_number n m is in let there : nat_eq m n ≡ true = grind (arith, nat_tests, same) in there
turned n m false is = grind (arith, nat_tests, is)

abbrev number_or_none : Option ℕ → ℕ
number_or_none o = option_map_or (λ n. n) o 0

some_kept : (o : Option ℕ) → is_some o ≡ true → o ≡ Some (number_or_none o)
some_kept None is = absurd (cc)
some_kept (Some n) is = refl

-- each thread is in the context of its innermost activation
threads_after : (old new : KeptBranches) (past : List Event) (e : Event) (tid : ℕ) (v : Option ℕ) → BranchesStandFor old past →
    ((t : ℕ) → value_of new.threads t ≡ cond (tid == t) v (value_of old.threads t)) →
    IsNumberOf (contexts (e ∷ past)) (number_or_none v) (context_of (open_calls (e ∷ past) tid)) →
    ((t : ℕ) → (tid == t) ≡ false → open_calls (e ∷ past) t ≡ open_calls past t) →
    ((m : ℕ) (c : List ℕ) → IsNumberOf (contexts past) m c → IsNumberOf (contexts (e ∷ past)) m c) →
    (t : ℕ) → IsNumberOf (contexts (e ∷ past)) (current_of new t) (context_of (open_calls (e ∷ past) t))
threads_after old new past e tid v stands reads own others grows t =
    subst (λ (o : Option ℕ). IsNumberOf (contexts (e ∷ past)) (number_or_none o) (context_of (open_calls (e ∷ past) t))) (sym (reads t)) (by (tid == t) refl)
  where
    by : (b : Bool) → (tid == t) ≡ b → IsNumberOf (contexts (e ∷ past)) (number_or_none (cond b v (value_of old.threads t))) (context_of (open_calls (e ∷ past) t))
    by true is = subst (λ u. IsNumberOf (contexts (e ∷ past)) (number_or_none v) (context_of (open_calls (e ∷ past) u))) (same_number tid t is) own
    by false is = subst (λ (calls : List Activation). IsNumberOf (contexts (e ∷ past)) (current_of old t) (context_of calls)) (sym (others t is)) (grows (current_of old t) (context_of (open_calls past t)) (stands.threads_in t))

-- ---- an activation begins
still_number : (known : List (List ℕ)) (b : List ℕ) (m : ℕ) (c : List ℕ) → IsNumberOf known m c → IsNumberOf (with_context known b) m c
still_number known b m c is = by (list_any (same b) known)
  where
    numbered_more : (m : ℕ) → m ≤ length known → numbered (known ++ b ∷ []) m ≡ numbered known m
    numbered_more zero le = refl
    numbered_more (suc i) le = get_or_append_left known (b ∷ []) [] i (omega (arith, le))

    by : (there : Bool) → IsNumberOf (cond there known (known ++ b ∷ [])) m c
    by true = is
    by false = record {
      within = omega (arith, is.within, length-append known (b ∷ []));
      there = numbered_more m is.within ∙ is.there;
    }

pub no_points : points_from [] ≡ []
unfolding grouped
no_points = refl

points_grown : (past : List Event) (c : List ℕ) (b : Bool) → list_any (same c) (contexts past) ≡ b →
    with_list b (map (points_in past) (contexts past)) ≡ map (points_in past) (cond b (contexts past) (contexts past ++ c ∷ []))
points_grown past c true is = refl
points_grown past c false is =
    let none : points_in past c ≡ [] = ap points_from (no_members (contexts past) c (done_in_context past) (done_known past) is) ∙ no_points in
    ap (λ (ps : List Point). map (points_in past) (contexts past) ++ ps ∷ []) (sym none) ∙ sym (map-append (points_in past) (contexts past) (c ∷ []))

module _ (old new : KeptBranches) (past : List Event) (e : Event) (tid n : ℕ) (a : Activation) (stands : BranchesStandFor old past)
    (opens : (t : ℕ) → open_calls (e ∷ past) t ≡ cond (tid == t) (a ∷ []) [] ++ open_calls past t)
    (begins : contexts (e ∷ past) ≡ with_context (contexts past) (context_of (open_calls (e ∷ past) tid)))
    (none : done_in_context (e ∷ past) ≡ done_in_context past) where
  abbrev context : List ℕ
  context = numbered (contexts past) (current_of old tid) ++ a.entry ∷ []

  pub own_context : context_of (open_calls (e ∷ past) tid) ≡ numbered (contexts past) (current_of old tid) ++ a.entry ∷ []
  own_context =
      ap context_of (opens tid ∙ ap (λ b. cond b (a ∷ []) [] ++ open_calls past tid) (eq-eqb tid tid refl))
      ∙ context_more a (open_calls past tid) ∙ ap (λ c. c ++ a.entry ∷ []) (sym (stands.threads_in tid).there)

  grown : contexts (e ∷ past) ≡ with_context (contexts past) (numbered (contexts past) (current_of old tid) ++ a.entry ∷ [])
  grown = begins ∙ ap (with_context (contexts past)) own_context

  pub stands-begun : IsLinked new.places new.links → by_number.NumbersStandFor new.places (with_context (contexts past) (numbered (contexts past) (current_of old tid) ++ a.entry ∷ [])) →
      length new.places ≤ CONTEXTS →
      new.points ≡ with_list (list_any (same (numbered (contexts past) (current_of old tid) ++ a.entry ∷ [])) (contexts past)) old.points →
      IsNumberOf (with_context (contexts past) (numbered (contexts past) (current_of old tid) ++ a.entry ∷ [])) n (numbered (contexts past) (current_of old tid) ++ a.entry ∷ []) →
      ((t : ℕ) → value_of new.threads t ≡ cond (tid == t) (Some n) (value_of old.threads t)) →
      ((t : ℕ) → is_some (value_of new.threads t) ≡ is_live (e ∷ past) t) → All (λ n. n ≤ greatest_start (e ∷ past)) (numbers new.threads) → BranchesStandFor new (e ∷ past)
  stands-begun linked places few points number reads live began = record {
    few = omega (arith, few, places.long, ap length grown);
    links_are = linked;
    contexts_are = subst (by_number.NumbersStandFor new.places) (sym grown) places;
    points_are =
        points ∙ ap (with_list (list_any (same context) (contexts past))) stands.points_are ∙ points_grown past context (list_any (same context) (contexts past)) refl
        ∙ ap₂ (λ all cs. map (points_of all) cs) (sym none) (sym grown);
    threads_live = live;
    threads_began = began;
    threads_in =
        threads_after old new past e tid (Some n) stands reads
        (subst (λ c. IsNumberOf (contexts (e ∷ past)) n c) (sym own_context) (subst (λ cs. IsNumberOf cs n context) (sym grown) number))
        (λ t isnt. opens t ∙ ap (λ b. cond b (a ∷ []) [] ++ open_calls past t) isnt)
        (λ m c is. subst (λ cs. IsNumberOf cs m c) (sym grown) (still_number (contexts past) context m c is));
  }

-- ---- activations end
module _ (old new : KeptBranches) (past : List Event) (e : Event) (tid count : ℕ) (ds : List Done) (stands : BranchesStandFor old past)
    (ends_are : ds ≡ map (done_of past tid) (take count (open_calls past tid)))
    (same_contexts : contexts (e ∷ past) ≡ contexts past)
    (more : done_in_context (e ∷ past) ≡ done_in_context past ++ zip (map (λ k. context_of (drop k (open_calls past tid))) (range_with_len 0 (length (take count (open_calls past tid))))) ds) where
  pub counted : length ds ≡ min count (length (open_calls past tid))
  counted = ap length ends_are ∙ length-map (take count (open_calls past tid)) (done_of past tid) ∙ length-take count (open_calls past tid)

  pub points_ended : new.points ≡ map (points_of (done_in_context past ++ tagged old.places (contexts past) (current_of old tid) ds)) (contexts past) → new.points ≡ map (points_in (e ∷ past)) (contexts (e ∷ past))
  points_ended points =
      let long : length ds ≡ length (take count (open_calls past tid)) = ap length ends_are ∙ length-map (take count (open_calls past tid)) (done_of past tid) in
      points
      ∙ ap (λ xs. map (points_of (done_in_context past ++ xs)) (contexts past))
      (tagged_is old.places (contexts past) stands.contexts_are ds (current_of old tid) (open_calls past tid) (omega (arith, counted)) (stands.threads_in tid).within (stands.threads_in tid).there
      ∙ ap (λ m. zip (map (λ k. context_of (drop k (open_calls past tid))) (range_with_len 0 m)) ds) long)
      ∙ ap₂ (λ all cs. map (points_of all) cs) (sym more) (sym same_contexts)

  pub stands-ended : (v : Option ℕ) → IsLinked new.places new.links → by_number.NumbersStandFor new.places (contexts past) →
      new.points ≡ map (points_of (done_in_context past ++ tagged old.places (contexts past) (current_of old tid) ds)) (contexts past) →
      ((t : ℕ) → value_of new.threads t ≡ cond (tid == t) v (value_of old.threads t)) →
      IsNumberOf (contexts past) (number_or_none v) (context_of (open_calls (e ∷ past) tid)) →
      ((t : ℕ) → (tid == t) ≡ false → open_calls (e ∷ past) t ≡ open_calls past t) →
      ((t : ℕ) → is_some (value_of new.threads t) ≡ is_live (e ∷ past) t) → All (λ n. n ≤ greatest_start (e ∷ past)) (numbers new.threads) → BranchesStandFor new (e ∷ past)
  stands-ended v linked places points reads own others live began = record {
    few = subst (λ (cs : List (List ℕ)). length cs ≤ CONTEXTS) (sym same_contexts) stands.few;
    links_are = linked;
    contexts_are = subst (by_number.NumbersStandFor new.places) (sym same_contexts) places;
    points_are = points_ended points;
    threads_live = live;
    threads_began = began;
    threads_in =
        threads_after old new past e tid v stands reads (subst (λ cs. IsNumberOf cs (number_or_none v) (context_of (open_calls (e ∷ past) tid))) (sym same_contexts) own)
        others (λ m c is. subst (λ cs. IsNumberOf cs m c) (sym same_contexts) is);
  }

-- ---- each kind of event
-- what comes of beginning a context right under another
pub record HasBegun (old new : KeptBranches) (known : List (List ℕ)) (above entry n : ℕ) : Type 0 where
  pub linked : IsLinked new.places new.links
  pub places : by_number.NumbersStandFor new.places (with_context known (numbered known above ++ entry ∷ []))
  pub few : length new.places ≤ CONTEXTS
  pub points : new.points ≡ with_list (list_any (same (numbered known above ++ entry ∷ [])) known) old.points
  pub number : IsNumberOf (with_context known (numbered known above ++ entry ∷ [])) n (numbered known above ++ entry ∷ [])

nothing_more : (past : List Event) → done_in_context past ++ [] ≡ done_in_context past
nothing_more past = append-nil (done_in_context past)

first_number : (old : KeptBranches) (tid : ℕ) → All (λ n. n < tid) (numbers old.threads) → current_of old tid ≡ 0
first_number old tid above = ap number_or_none (value_of-above old.threads tid above)

pub own-start : (old : KeptBranches) (past : List Event) (tid entry : ℕ) → All (λ n. n < tid) (numbers old.threads) → BranchesStandFor old past →
    context_of (open_calls (Start tid entry ∷ past) tid) ≡ numbered (contexts past) 0 ++ entry ∷ []
own-start old past tid entry above stands =
    own_context old old past (Start tid entry) tid 0 (record { at = length past; entry = entry; back = None }) stands (λ t. refl) refl (nothing_more past)
    ∙ ap (λ m. numbered (contexts past) m ++ entry ∷ []) (first_number old tid above)

module _ (old new : KeptBranches) (past : List Event) (tid entry n : ℕ) (above : All (λ n. n < tid) (numbers old.threads)) (stands : BranchesStandFor old past) where
  pub stands-start : new.threads ≡ old.threads ++ (tid, n) ∷ [] → HasBegun old new (contexts past) 0 entry n → BranchesStandFor new (Start tid entry ∷ past)
  stands-start threads first =
      let begun : HasBegun old new (contexts past) (current_of old tid) entry n = subst (λ m. HasBegun old new (contexts past) m entry n) (sym (first_number old tid above)) first in
      stands-begun old new past (Start tid entry) tid n (record { at = length past; entry = entry; back = None }) stands (λ t. refl) refl (nothing_more past) begun.linked begun.places begun.few begun.points begun.number reads
      (λ t. ap is_some (reads t) ∙ live t (tid == t) refl)
      (All-same (λ n. n ≤ max tid (greatest_start past)) (numbers new.threads) (numbers old.threads ++ tid ∷ [])
      (ap numbers threads ∙ map-append (λ x. x.0) old.threads ((tid, n) ∷ []))
      (All-push (λ n. n ≤ max tid (greatest_start past)) (numbers old.threads) tid
      (All-weaker (λ n. n < tid) (λ n. n ≤ max tid (greatest_start past)) (λ n low. omega (arith, low)) (numbers old.threads) above) (omega arith)))
    where
      reads : (t : ℕ) → value_of new.threads t ≡ cond (tid == t) (Some n) (value_of old.threads t)
      reads t = ap (λ (xs : List (ℕ × ℕ)). value_of xs t) threads ∙ value_of-pushed old.threads tid n above t

      live : (t : ℕ) (b : Bool) → (tid == t) ≡ b → is_some (cond b (Some n) (value_of old.threads t)) ≡ (nat_eq t tid || is_live past t)
      live t true is = sym (ap (λ b. b || is_live past t) (turned tid t true is))
      live t false is = stands.threads_live t ∙ sym (ap (λ b. b || is_live past t) (turned tid t false is))

-- a thread that lives is in another context
module _ (old new : KeptBranches) (past : List Event) (tid n : ℕ) (lives : is_some (value_of old.threads tid) ≡ true) (threads : new.threads ≡ with_value old.threads tid n) (stands : BranchesStandFor old past) where
  reads_changed : (t : ℕ) → value_of new.threads t ≡ cond (tid == t) (Some n) (value_of old.threads t)
  reads_changed t =
      ap (λ (xs : List (ℕ × ℕ)). value_of xs t) threads
      ∙ value_of-with old.threads tid n (current_of old tid) (some_kept (value_of old.threads tid) lives) t

  still_live : (t : ℕ) → is_some (value_of new.threads t) ≡ is_live past t
  still_live t = ap is_some (reads_changed t) ∙ by (tid == t) refl
    where
      by : (b : Bool) → (tid == t) ≡ b → is_some (cond b (Some n) (value_of old.threads t)) ≡ is_live past t
      by true is = sym lives ∙ ap (λ m. is_some (value_of old.threads m)) (same_number tid t is) ∙ stands.threads_live t
      by false is = stands.threads_live t

  still_began : All (λ n. n ≤ greatest_start past) (numbers new.threads)
  still_began =
      All-same (λ n. n ≤ greatest_start past) (numbers new.threads) (numbers old.threads) (ap numbers threads ∙ numbers-with old.threads tid n) stands.threads_began

pub stands-call : (old new : KeptBranches) (past : List Event) (tid entry back above n : ℕ) → above ≡ current_of old tid → is_some (value_of old.threads tid) ≡ true → new.threads ≡ with_value old.threads tid n → BranchesStandFor old past →
    HasBegun old new (contexts past) above entry n → BranchesStandFor new (Call tid entry back ∷ past)
stands-call old new past tid entry back above n at lives threads stands there =
    let begun : HasBegun old new (contexts past) (current_of old tid) entry n = subst (λ m. HasBegun old new (contexts past) m entry n) at there in
    stands-begun old new past (Call tid entry back) tid n (record { at = length past; entry = entry; back = Some back }) stands (λ t. refl) refl (nothing_more past) begun.linked begun.places begun.few begun.points begun.number
    (reads_changed old new past tid n lives threads stands) (still_live old new past tid n lives threads stands) (still_began old new past tid n lives threads stands)

-- what the end of activations of the context of a number and those above it comes to
pub record HaveEnded (old new : KeptBranches) (from : ℕ) (ds : List Done) : Type 0 where
  pub places : new.places ≡ old.places
  pub links : new.links ≡ old.links
  pub points : (known : List (List ℕ)) (members : List (List ℕ × Done)) → by_number.NumbersStandFor old.places known → old.points ≡ map (points_of members) known →
      new.points ≡ map (points_of (members ++ tagged old.places known from ds)) known

still_linked : (old new : KeptBranches) → {past : List Event} → BranchesStandFor old past → new.places ≡ old.places → new.links ≡ old.links → IsLinked new.places new.links
still_linked old new stands places links = subst (λ ps. IsLinked ps new.links) (sym places) (subst (λ ls. IsLinked old.places ls) (sym links) stands.links_are)

pub stands-return : (old new : KeptBranches) (past : List Event) (tid target n : ℕ) (ds : List Done) → is_some (value_of old.threads tid) ≡ true → new.threads ≡ with_value old.threads tid n →
    n ≡ up old.places (current_of old tid) (length ds) → ds ≡ ended (Ret tid target) past → BranchesStandFor old past → HaveEnded old new (current_of old tid) ds → BranchesStandFor new (Ret tid target ∷ past)
stands-return old new past tid target n ds lives threads up_to are stands ends =
    let count = count_ending (Ret tid target) tid (backs (open_calls past tid)) in
    let long : length ds ≡ min (count_ending (Ret tid target) tid (backs (open_calls past tid))) (length (open_calls past tid)) =
    ap length are ∙ length-map (take (count_ending (Ret tid target) tid (backs (open_calls past tid))) (open_calls past tid)) (done_of past tid)
    ∙ length-take (count_ending (Ret tid target) tid (backs (open_calls past tid))) (open_calls past tid)
    in
    let here = up_is old.places (contexts past) stands.contexts_are (current_of old tid) (open_calls past tid) (stands.threads_in tid).within (stands.threads_in tid).there (length ds) (omega (arith, long)) in
    stands-ended old new past (Ret tid target) tid (count_ending (Ret tid target) tid (backs (open_calls past tid))) ds stands are refl
    (ap (λ xs. done_in_context past ++ zip (map (λ k. context_of (drop k (open_calls past tid))) (range_with_len 0 (length (take (count_ending (Ret tid target) tid (backs (open_calls past tid))) (open_calls past tid))))) xs) (sym are))
    (Some n) (still_linked old new stands ends.places ends.links) (subst (λ ps. by_number.NumbersStandFor ps (contexts past)) (sym ends.places) stands.contexts_are) (ends.points (contexts past) (done_in_context past) stands.contexts_are stands.points_are)
    (reads_changed old new past tid n lives threads stands)
    (record {
      within = subst (λ m. m ≤ length (contexts past)) (sym up_to) here.within;
      there = ap (numbered (contexts past)) up_to ∙ here.is ∙ ap (λ k. context_of (drop k (open_calls past tid))) long
          ∙ ap context_of (drop_min (count_ending (Ret tid target) tid (backs (open_calls past tid))) (open_calls past tid));
    })
    (λ t isnt. ap (λ b. drop (cond b (count_all_of t) 0) (open_calls past t)) isnt)
    (still_live old new past tid n lives threads stands) (still_began old new past tid n lives threads stands)
  where
    count_all_of : ℕ → ℕ
    count_all_of t = count_returned target (backs (open_calls past t))

pub stands-end : (old new : KeptBranches) (past : List Event) (tid : ℕ) (ds : List Done) → new.threads ≡ without_thread old.threads tid →
    ds ≡ ended (End tid) past → BranchesStandFor old past → HaveEnded old new (current_of old tid) ds → BranchesStandFor new (End tid ∷ past)
stands-end old new past tid ds threads are stands ends =
    stands-ended old new past (End tid) tid (count_ending (End tid) tid (backs (open_calls past tid))) ds stands are refl
    (ap (λ xs. done_in_context past ++ zip (map (λ k. context_of (drop k (open_calls past tid))) (range_with_len 0 (length (take (count_ending (End tid) tid (backs (open_calls past tid))) (open_calls past tid))))) xs) (sym are))
    None (still_linked old new stands ends.places ends.links) (subst (λ ps. by_number.NumbersStandFor ps (contexts past)) (sym ends.places) stands.contexts_are) (ends.points (contexts past) (done_in_context past) stands.contexts_are stands.points_are)
    reads
    (record { within = omega arith; there = sym (ap context_of all_ended) })
    (λ t isnt. ap (λ b. drop (cond b (length (backs (open_calls past t))) 0) (open_calls past t)) isnt)
    (λ t. ap is_some (reads t) ∙ live t (tid == t) refl)
    (All-same (λ n. n ≤ greatest_start past) (numbers new.threads) (numbers (without_thread old.threads tid)) (ap numbers threads)
    (All-numbers-without (λ n. n ≤ greatest_start past) old.threads tid stands.threads_began))
  where
    reads : (t : ℕ) → value_of new.threads t ≡ cond (tid == t) None (value_of old.threads t)
    reads t = ap (λ (xs : List (ℕ × ℕ)). value_of xs t) threads ∙ value_of-without old.threads tid t

    live : (t : ℕ) (b : Bool) → (tid == t) ≡ b → is_some (cond b None (value_of old.threads t)) ≡ (not (nat_eq t tid) && is_live past t)
    live t true is = sym (ap (λ b. not b && is_live past t) (turned tid t true is))
    live t false is = stands.threads_live t ∙ sym (ap (λ b. not b && is_live past t) (turned tid t false is))

    all_ended : open_calls (End tid ∷ past) tid ≡ []
    all_ended =
        let long : length (backs (open_calls past tid)) ≡ length (open_calls past tid) = length-map (open_calls past tid) (λ a. a.back) in
        ap (λ b. drop (cond b (length (backs (open_calls past tid))) 0) (open_calls past tid)) (eq-eqb tid tid refl)
        ∙ drop_all (length (backs (open_calls past tid))) (open_calls past tid) (omega (arith, long))

-- ---- what the calls of an event require

pub each_points : (kept : KeptBranches) (past : List Event) → BranchesStandFor kept past → IsLight past → All ArePoints kept.points
each_points kept past stands light =
    subst (All ArePoints) (sym stands.points_are) (All-map ArePoints (points_in past) (contexts past) (λ i d inside. rooms past light (get_or (contexts past) i d)))

pub as_many : (kept : KeptBranches) (past : List Event) → BranchesStandFor kept past → length kept.points ≡ length kept.places
as_many kept past stands = ap length stands.points_are ∙ length-map (contexts past) (points_in past) ∙ sym stands.contexts_are.long

pub current_within : (kept : KeptBranches) (past : List Event) (t : ℕ) → BranchesStandFor kept past → current_of kept t ≤ length kept.places
current_within kept past t stands = omega (arith, (stands.threads_in t).within, stands.contexts_are.long)

pub way_ended : (kept : KeptBranches) (past : List Event) (tid count : ℕ) (ds : List Done) → BranchesStandFor kept past → ds ≡ map (done_of past tid) (take count (open_calls past tid)) →
    IsWay kept.places (current_of kept tid) (length ds)
way_ended kept past tid count ds stands are =
    let long : length ds ≡ min count (length (open_calls past tid)) =
    ap length are ∙ length-map (take count (open_calls past tid)) (done_of past tid) ∙ length-take count (open_calls past tid)
    in
    way_of kept.places (contexts past) stands.contexts_are (current_of kept tid) (length ds) (open_calls past tid) (stands.threads_in tid).within (stands.threads_in tid).there (omega (arith, long))

pub ok_of : {T E : Type 0} (r : Result T E) (P : Type 0) → IsOk r → OnOk r P → P
ok_of (Ok x) P ok p = p
ok_of (Err e) P ok p = absurd (cc)

-- the points of the context of a number
pub points_at : (kept : KeptBranches) (past : List Event) → BranchesStandFor kept past → (n : ℕ) → 1 ≤ n → n ≤ length (contexts past) → get_or kept.points (n - 1) [] ≡ points_in past (numbered (contexts past) n)
points_at kept past stands zero some within = absurd (omega (arith, some))
points_at kept past stands (suc i) some within =
    let at : suc i - 1 ≡ i = omega arith in
    ap (λ j. get_or kept.points j []) at ∙ ap (λ ls. get_or ls i []) stands.points_are ∙ get_or-map (points_in past) (contexts past) i [] [] (omega (arith, within))
