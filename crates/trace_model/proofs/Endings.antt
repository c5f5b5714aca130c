-- The profile has each ending of an activation, in their order.
use Rattle.std.proofs.Common.{inl, inr, ◌≡◌, ℕ, suc, ◌+◌, ◌-◌, ◌<◌, ◌≤◌, Bool, true, false, cond, eqb, List, [], ◌∷◌, ◌++◌, length, take, drop, map, get_or, Option, Some, None, refl, sym, ap, ap₂, ◌∙◌, subst, arith}
use Rattle.std.specs.Prelude.{All, Contains}
use Rattle.std.proofs.Math.Seq.{drop-nil}
use Rattle.std.proofs.lemmas.Bool.{cases_eq, cases_lt, ne_eqb}
use Rattle.std.proofs.lemmas.List.{take-append-drop, map-append}
use Rattle.std.proofs.lemmas.List.Elements.{All-nil, All-append, All-contains, All-map, All-take, All-weaker, Contains-append_cases, Contains-append_left, Contains-append_right}
use Rattle.std.proofs.lemmas.Option.{none-some, same_Some}
use Rattle.trace_model.specs.declared.event_kinds.Event.{Event}
use Rattle.trace_model.specs.declared.event_kinds.Event.TheVariants.{Step, Read, Write, Fill, Call, Ret, Start, End}
use Rattle.trace_model.specs.declared.activations.Activation.{Activation}
use Rattle.trace_model.specs.declared.slow_profile.Done.{Done}
use Rattle.trace_model.specs.Events.{thread_of}
use Rattle.trace_model.specs.Activations.{begun, count_ending, count_returned, backs, open_calls, ending_calls}
use Rattle.trace_model.specs.Sizes.{since, before}
use Rattle.trace_model.specs.Profile.{done, done_of, done_with, ended_of}
use Rattle.trace_model.specs.Positions.{Ending, IsEnding, IsRetOrEnd, ComesBefore, done_at, DoneIsByEndings}
use Rattle.trace_model.proofs.Ended.{open_calls_begun}
use Rattle.trace_model.proofs.OpenPositions.{IsAfter, innermost_last}
use Rattle.trace_model.proofs.Pairs.{Later, pairs, later_take, later_map, later_weaker, later_append, later_across, contains_first, contains_map, contains_from_map}
use Rattle.trace_model.proofs.Positions.{event_new, event_old, event_within, before_all, before_more, before_new}

abbrev ending : ℕ → ℕ → Activation → Ending
ending t n a = record { tid = t; call = a; at = n }

abbrev ended_by : Event → List Event → Option ℕ → List Ending
ended_by e past None = []
ended_by e past (Some t) = map (ending t (length past)) (ending_calls e past t)

-- each ending, in order
abbrev endings : List Event → List Ending
endings [] = []
endings (e ∷ past) = endings past ++ ended_by e past (thread_of e)

-- it ends before the position, and began before it ends
abbrev IsWithin : ℕ → Ending → Type 0
IsWithin n x = (x.at < n) × (x.call.at < x.at)

abbrev IsNow : ℕ → Ending → Type 0
IsNow n x = (x.at ≡ n) × (x.call.at < n)

ending_begun : (e : Event) (past : List Event) (t : ℕ) → All (λ a. a.at < length past) (ending_calls e past t)
ending_begun e past t =
    All-take (λ (a : Activation). a.at < length past) (count_ending e t (backs (open_calls past t))) (open_calls past t) (open_calls_begun past t)

by_within : (e : Event) (past : List Event) (o : Option ℕ) → All (IsNow (length past)) (ended_by e past o)
by_within e past None = All-nil (IsNow (length past))
by_within e past (Some t) =
    All-map (IsNow (length past)) (ending t (length past)) (ending_calls e past t) (λ k d in'. (refl, ending_begun e past t k d in'))

within : (past : List Event) → All (IsWithin (length past)) (endings past)
within [] = All-nil (IsWithin 0)
within (e ∷ past) =
    let n = length past in
    All-append (IsWithin (suc n)) (endings past) (ended_by e past (thread_of e))
    (All-weaker (IsWithin n) (IsWithin (suc n)) (λ x h. (omega (arith, h.0), h.1)) (endings past) (within past))
    (All-weaker (IsNow n) (IsWithin (suc n)) (λ x h. (omega (arith, h.0), omega (arith, h.0, h.1))) (ended_by e past (thread_of e)) (by_within e past (thread_of e)))

-- what the profile has of them

map_same : {A B : Type 0} (f g : A → B) (xs : List A) → All (λ x. f x ≡ g x) xs → map f xs ≡ map g xs
map_same f g [] h = refl
map_same f g (x ∷ xs) h = ap₂ (λ y ys. y ∷ ys) (h 0 x (omega arith)) (map_same f g xs (λ k d in'. h (suc k) d (omega (arith, in'))))

map_map : {A B C : Type 0} (f : A → B) (g : B → C) (xs : List A) → map g (map f xs) ≡ map (λ x. g (f x)) xs
map_map f g [] = refl
map_map f g (x ∷ xs) = ap (λ ys. g (f x) ∷ ys) (map_map f g xs)

-- what the profile has of an ending by what lies before its end, and what lies before its begin
abbrev done_in : List Event → List Event → Ending → Done
done_in part until x = done_with (since part x.call.at) until x.tid x.call.entry

-- it began no later than it ended
done_old : (e : Event) (past : List Event) (x : Ending) → x.at < length past → x.call.at < x.at → done_at past x ≡ done_at (e ∷ past) x
done_old e past x h begun =
    ap₂ (λ part until. done_in part until x) (sym (before_more e past x.at (omega (arith, h))))
    (sym (before_more e past (x.call.at + 1) (omega (arith, h, begun))))

done_new : (e : Event) (past : List Event) (t : ℕ) (a : Activation) → a.at < length past → done_of past t a ≡ done_at (e ∷ past) (ending t (length past) a)
done_new e past t a begun =
    ap₂ (λ part until. done_in part until (ending t (length past) a)) (sym (before_new e past))
    (sym (before_more e past (a.at + 1) (omega (arith, begun))))

ended_done : (e : Event) (past : List Event) (o : Option ℕ) → ended_of past e o ≡ map (done_at (e ∷ past)) (ended_by e past o)
ended_done e past None = refl
ended_done e past (Some t) =
    let calls = ending_calls e past t in
    let f = ending t (length past) in
    map_same (done_of past t) (λ a. done_at (e ∷ past) (f a)) calls (λ k d in'. done_new e past t (get_or calls k d) (ending_begun e past t k d in')) ∙ sym (map_map f (done_at (e ∷ past)) calls)

profile : (past : List Event) → done past ≡ map (done_at past) (endings past)
profile [] = refl
profile (e ∷ past) =
    let new = ended_by e past (thread_of e) in
    ap₂ (λ xs ys. xs ++ ys)
    (profile past ∙ map_same (done_at past) (done_at (e ∷ past)) (endings past) (All-weaker (IsWithin (length past)) (λ x. done_at past x ≡ done_at (e ∷ past) x) (λ x h. done_old e past x h.0 h.1) (endings past) (within past)))
    (ended_done e past (thread_of e))
    ∙ sym (map-append (done_at (e ∷ past)) (endings past) new)

-- the event that ends them

by_nothing : (e : Event) (past : List Event) (t : ℕ) → ending_calls e past t ≡ [] → All (IsRetOrEnd (e ∷ past)) (ended_by e past (Some t))
by_nothing e past t none = subst (λ calls. All (IsRetOrEnd (e ∷ past)) (map (ending t (length past)) calls)) (sym none) (All-nil (IsRetOrEnd (e ∷ past)))

by_new : (e : Event) (past : List Event) (t : ℕ) → thread_of e ≡ Some t → All (IsRetOrEnd (e ∷ past)) (ended_by e past (Some t))
by_new (Step a) past t of_t = by_nothing (Step a) past t refl
by_new (Read a first count) past t of_t = by_nothing (Read a first count) past t refl
by_new (Write a first count) past t of_t = by_nothing (Write a first count) past t refl
by_new (Fill first count) past t of_t = by_nothing (Fill first count) past t refl
by_new (Call a entry back) past t of_t = by_nothing (Call a entry back) past t refl
by_new (Start a entry) past t of_t = by_nothing (Start a entry) past t refl
by_new (Ret a target) past t of_t =
    All-map (IsRetOrEnd (Ret a target ∷ past)) (ending t (length past)) (ending_calls (Ret a target) past t)
    (λ k d in'. inl (target, event_new (Ret a target) past ∙ ap (λ u. Some (Ret u target)) (same_Some a t of_t)))
by_new (End a) past t of_t =
    All-map (IsRetOrEnd (End a ∷ past)) (ending t (length past)) (ending_calls (End a) past t)
    (λ k d in'. inr (event_new (End a) past ∙ ap (λ u. Some (End u)) (same_Some a t of_t)))

by_event : (e : Event) (past : List Event) (o : Option ℕ) → thread_of e ≡ o → All (IsRetOrEnd (e ∷ past)) (ended_by e past o)
by_event e past None of_t = All-nil (IsRetOrEnd (e ∷ past))
by_event e past (Some t) of_t = by_new e past t of_t

by_old : (e : Event) (past : List Event) (x : Ending) → IsRetOrEnd past x → IsRetOrEnd (e ∷ past) x
by_old e past x (inl (target, is)) = inl (target, event_old e past x.at (event_within past x.at (Ret x.tid target) is) ∙ is)
by_old e past x (inr is) = inr (event_old e past x.at (event_within past x.at (End x.tid) is) ∙ is)

by : (past : List Event) → All (IsRetOrEnd past) (endings past)
by [] = All-nil (IsRetOrEnd [])
by (e ∷ past) =
    All-append (IsRetOrEnd (e ∷ past)) (endings past) (ended_by e past (thread_of e))
    (All-weaker (IsRetOrEnd past) (IsRetOrEnd (e ∷ past)) (by_old e past) (endings past) (by past))
    (by_event e past (thread_of e) refl)

-- their order

by_order : (e : Event) (past : List Event) (o : Option ℕ) → Later ComesBefore (ended_by e past o)
by_order e past None = tt
by_order e past (Some t) =
    let calls = open_calls past t in
    let k = count_ending e t (backs calls) in
    let f = ending t (length past) in
    later_map ComesBefore f (take k calls)
    (later_weaker IsAfter (λ a b. ComesBefore (f a) (f b)) (λ a b h. inr (refl, h)) (take k calls) (later_take IsAfter k calls (innermost_last past t)))

order : (past : List Event) → Later ComesBefore (endings past)
order [] = tt
order (e ∷ past) =
    let n = length past in
    let new = ended_by e past (thread_of e) in
    later_append ComesBefore (endings past) new (order past) (by_order e past (thread_of e))
    (All-weaker (IsWithin n) (λ x. All (ComesBefore x) new)
    (λ x h. All-weaker (IsNow n) (ComesBefore x) (λ y here. inl (omega (arith, h.0, here.0))) new (by_within e past (thread_of e)))
    (endings past) (within past))

-- each is an activation that was open before and is not after

-- the event ends an activation that was open where it is not open behind it
gone : (e : Event) (past : List Event) (t : ℕ) (a : Activation) → Contains (open_calls past t) a → ¬ Contains (open_calls (e ∷ past) t) a → Contains (ending_calls e past t) a
gone e past t a stood left =
    let calls = open_calls past t in
    let k = count_ending e t (backs calls) in
    elim (Contains-append_cases (take k calls) (drop k calls) a (subst (λ cs. Contains cs a) (sym (take-append-drop k calls)) stood)) [
      | inl ends ↦ ends
      | inr stays ↦ absurd (left (Contains-append_right (begun e t (length past)) (drop k calls) a stays))
    ]

begun_here : (y : Bool) (n : ℕ) (x a : Activation) → x.at ≡ n → Contains (cond y (x ∷ []) []) a → a.at ≡ n
begun_here true n x a is c =
    elim (contains_first x [] a c) [
      | inl same ↦ ap (λ (z : Activation). z.at) (sym same) ∙ is
      | inr none ↦ absurd (omega (arith, none.1))
    ]
begun_here false n x a is c = absurd (omega (arith, c.1))

begun_if : (n : ℕ) (a : Activation) (e : Event) (t : ℕ) → Contains (begun e t n) a → a.at ≡ n
begun_if n a (Call b entry back) t c = begun_here (eqb b t) n (record { at = n; entry = entry; back = Some back }) a refl c
begun_if n a (Start b entry) t c = begun_here (eqb b t) n (record { at = n; entry = entry; back = None }) a refl c
begun_if n a _ t c = absurd (omega (arith, c.1))

ending_stood : (e : Event) (past : List Event) (t : ℕ) (a : Activation) → Contains (ending_calls e past t) a → Contains (open_calls past t) a
ending_stood e past t a c =
    let calls = open_calls past t in
    let k = count_ending e t (backs calls) in
    subst (λ cs. Contains cs a) (take-append-drop k calls) (Contains-append_left (take k calls) (drop k calls) a c)

-- what the event ends is not open behind it
left : (e : Event) (past : List Event) (t : ℕ) (a : Activation) → Contains (ending_calls e past t) a → ¬ Contains (open_calls (e ∷ past) t) a
left e past t a ends stays =
    let calls = open_calls past t in
    let k = count_ending e t (backs calls) in
    let n = length past in
    elim (Contains-append_cases (begun e t n) (drop k calls) a stays) [
      | inl new ↦ absurd (omega (arith, begun_if n a e t new, All-contains (λ b. b.at < n) calls a (open_calls_begun past t) (ending_stood e past t a ends)))
      | inr old ↦
          let later : Later IsAfter (take k calls ++ drop k calls) = subst (Later IsAfter) (sym (take-append-drop k calls)) (innermost_last past t) in
          absurd (omega (arith, later_across IsAfter (take k calls) (drop k calls) a a later ends old))
    ]

none_ends : (e : Event) (past : List Event) (t : ℕ) (a : Activation) → ending_calls e past t ≡ [] → ¬ Contains (ending_calls e past t) a
none_ends e past t a none c = absurd (omega (arith, (subst (λ cs. Contains cs a) none c).1))

-- only an event of the thread ends its activations
of_thread : (e : Event) (past : List Event) (t : ℕ) (a : Activation) → Contains (ending_calls e past t) a → thread_of e ≡ Some t
of_thread (Ret b target) past t a c =
    elim (cases_eq b t) [
      | inl same ↦ ap Some same
      | inr other ↦ absurd (none_ends (Ret b target) past t a (ap (λ y. take (cond y (count_returned target (backs (open_calls past t))) 0) (open_calls past t)) (ne_eqb b t other)) c)
    ]
of_thread (End b) past t a c =
    elim (cases_eq b t) [
      | inl same ↦ ap Some same
      | inr other ↦ absurd (none_ends (End b) past t a (ap (λ y. take (cond y (length (backs (open_calls past t))) 0) (open_calls past t)) (ne_eqb b t other)) c)
    ]
of_thread (Step b) past t a c = absurd (omega (arith, c.1))
of_thread _ past t a c = absurd (omega (arith, c.1))

ending_old : (e : Event) (past : List Event) (x : Ending) → x.at < length past → IsEnding past x → IsEnding (e ∷ past) x
ending_old e past x h is = record {
  stood = subst (λ part. Contains (open_calls part x.tid) x.call) (sym (before_more e past x.at (omega (arith, h)))) is.stood;
  ended = λ c. is.ended (subst (λ part. Contains (open_calls part x.tid) x.call) (before_more e past (x.at + 1) (omega (arith, h))) c);
}

ending_back : (e : Event) (past : List Event) (x : Ending) → x.at < length past → IsEnding (e ∷ past) x → IsEnding past x
ending_back e past x h is = record {
  stood = subst (λ part. Contains (open_calls part x.tid) x.call) (before_more e past x.at (omega (arith, h))) is.stood;
  ended = λ c. is.ended (subst (λ part. Contains (open_calls part x.tid) x.call) (sym (before_more e past (x.at + 1) (omega (arith, h)))) c);
}

ending_new : (e : Event) (past : List Event) (t : ℕ) (a : Activation) → Contains (ending_calls e past t) a → IsEnding (e ∷ past) (ending t (length past) a)
ending_new e past t a c = record {
  stood = subst (λ part. Contains (open_calls part t) a) (sym (before_new e past)) (ending_stood e past t a c);
  ended = λ stays. left e past t a c (subst (λ part. Contains (open_calls part t) a) (before_all (e ∷ past) (length past + 1) (omega arith)) stays);
}

-- an ending by the new event
ended_here : (e : Event) (past : List Event) (x : Ending) → x.at ≡ length past → IsEnding (e ∷ past) x → Contains (ending_calls e past x.tid) x.call
ended_here e past x here is =
    gone e past x.tid x.call
    (subst (λ part. Contains (open_calls part x.tid) x.call) (ap (before (e ∷ past)) here ∙ before_new e past) is.stood)
    (λ stays. is.ended (subst (λ part. Contains (open_calls part x.tid) x.call) (sym (before_all (e ∷ past) (x.at + 1) (omega (arith, here)))) stays))

in_new : (e : Event) (past : List Event) (x : Ending) (o : Option ℕ) → thread_of e ≡ o → x.at ≡ length past → Contains (ending_calls e past x.tid) x.call → Contains (ended_by e past o) x
in_new e past x None of_t here c = absurd (none-some x.tid (sym of_t ∙ of_thread e past x.tid x.call c))
in_new e past x (Some t) of_t here c =
    let same : t ≡ x.tid = same_Some t x.tid (sym of_t ∙ of_thread e past x.tid x.call c) in
    let one : ending x.tid (length past) x.call ≡ x = ap (λ n. ending x.tid n x.call) (sym here) in
    subst (λ u. Contains (ended_by e past (Some u)) x) (sym same)
    (subst (Contains (ended_by e past (Some x.tid))) one (contains_map (ending x.tid (length past)) (ending_calls e past x.tid) x.call c))

is_new : (e : Event) (past : List Event) (x : Ending) (o : Option ℕ) → Contains (ended_by e past o) x → IsEnding (e ∷ past) x
is_new e past x None c = absurd (omega (arith, c.1))
is_new e past x (Some t) c =
    let found = contains_from_map (ending t (length past)) (ending_calls e past t) x c in
    subst (IsEnding (e ∷ past)) found.2 (ending_new e past t found.0 found.1)

is_ending : (past : List Event) (x : Ending) → Contains (endings past) x → IsEnding past x
is_ending [] x c = absurd (omega (arith, c.1))
is_ending (e ∷ past) x c =
    elim (Contains-append_cases (endings past) (ended_by e past (thread_of e)) x c) [
      | inl old ↦ ending_old e past x (All-contains (IsWithin (length past)) (endings past) x (within past) old).0 (is_ending past x old)
      | inr new ↦ is_new e past x (thread_of e) new
    ]

none_stood : (x : Ending) → ¬ IsEnding [] x
none_stood x is = absurd (omega (arith, (subst (λ part. Contains (open_calls part x.tid) x.call) (drop-nil (0 - x.at)) is.stood).1))

-- nothing ends behind the last event
not_late : (past : List Event) (x : Ending) → length past ≤ x.at → ¬ IsEnding past x
not_late past x late is =
    is.ended (subst (λ part. Contains (open_calls part x.tid) x.call) (before_all past x.at late ∙ sym (before_all past (x.at + 1) (omega (arith, late)))) is.stood)

each_ending : (past : List Event) (x : Ending) → IsEnding past x → Contains (endings past) x
each_ending [] x is = absurd (none_stood x is)
each_ending (e ∷ past) x is =
    let old = endings past in
    let new = ended_by e past (thread_of e) in
    elim (cases_lt x.at (length past)) [
      | inl earlier ↦ Contains-append_left old new x (each_ending past x (ending_back e past x earlier is))
      | inr later ↦ elim (cases_eq x.at (length past)) [
        | inl here ↦ Contains-append_right old new x (in_new e past x (thread_of e) refl here (ended_here e past x here is))
        | inr other ↦ absurd (not_late (e ∷ past) x (above (length past) x.at later other) is)
      ]
    ]
  where
    above : (n q : ℕ) → n ≤ q → (q ≡ n → ⊥) → suc n ≤ q
    above n q h other = elim (cases_lt n q) [ inl below ↦ omega (arith, below) | inr most ↦ absurd (other (omega (arith, h, most))) ]

pub by_endings : DoneIsByEndings
by_endings past = record {
  endings = endings past;
  each = λ x. (is_ending past x, each_ending past x);
  order = pairs ComesBefore (endings past) (order past);
  by = by past;
  profile = profile past;
}
