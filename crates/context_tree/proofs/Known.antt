-- The contexts of open and of ended activations are among those that began.
use Rattle.std.proofs.Common.{◌≡◌, ℕ, zero, suc, ◌+◌, ◌<◌, ◌≤◌, Bool, true, false, cond, List, [], ◌∷◌, ◌++◌, length, drop, map, Option, Some, None, refl, sym, ap, ◌∙◌, subst, arith}
use Rattle.std.specs.Prelude.{nat_eq, ◌||◌}
use Rattle.std.specs.Cmp.Lexicographic.{told_text}
use Rattle.std.specs.List.{All, filter, list_any, zip}
use Rattle.std.proofs.lemmas.Bool.Decides.{nat_tests}
use Rattle.std.proofs.lemmas.List.{drop-drop, length-drop, length-take}
use Rattle.std.proofs.lemmas.List.Folds.{list_any-append}
use Rattle.std.proofs.lemmas.List.FromFn.{get_or-map-range_with_len, length-map-range_with_len}
use Rattle.std.proofs.lemmas.List.Elements.{All-append, All-cons, All-head, All-nil, All-tail, All-weaker}
use Rattle.trace_model.specs.declared.event_kinds.Event.{Event}
use Rattle.trace_model.specs.declared.event_kinds.Event.TheVariants.{Call, Ret, Start, End}
use Rattle.trace_model.specs.declared.activations.Activation.{Activation}
use Rattle.trace_model.specs.declared.slow_profile.Done.{Done}
use Rattle.trace_model.specs.Activations.{backs, count_ending, ending_calls, open_calls}
use Rattle.trace_model.specs.Events.{thread_of}
use Rattle.trace_model.specs.Profile.{ended}
use Rattle.context_tree.specs.Contexts.{context_begun, context_of, contexts, same, with_begun, with_context}
use Rattle.context_tree.specs.Points.{contexts_ended, done_in_context, members_of}
use Rattle.context_tree.proofs.Numbering.{same_told}

abbrev pub IsKnown : List (List ℕ) → List ℕ → Type 0
IsKnown known c = list_any (same c) known ≡ true

any_push : (p : List ℕ → Bool) (xs : List (List ℕ)) (x : List ℕ) → list_any p xs ≡ true → list_any p (xs ++ x ∷ []) ≡ true
any_push p xs x is = list_any-append p xs (x ∷ []) ∙ ap (λ b. b || list_any p (x ∷ [])) is

any_last : (p : List ℕ → Bool) (xs : List (List ℕ)) (x : List ℕ) → p x ≡ true → list_any p (xs ++ x ∷ []) ≡ true
any_last p xs x is =
    let one : list_any p (x ∷ []) ≡ true = ap (λ b. b || false) is in
    list_any-append p xs (x ∷ []) ∙ ap (λ b. list_any p xs || b) one ∙ by (list_any p xs)
  where
    by : (b : Bool) → (b || true) ≡ true
    by true = refl
    by false = refl

-- ---- with one context more
module _ (known : List (List ℕ)) (b : List ℕ) where
  pub kept_known : (c : List ℕ) → IsKnown known c → IsKnown (with_context known b) c
  kept_known c is = by (list_any (same b) known)
    where
      by : (there : Bool) → IsKnown (cond there known (known ++ b ∷ [])) c
      by true = is
      by false = any_push (same c) known b is

  own_known : IsKnown (with_context known b) b
  own_known = by (list_any (same b) known) refl
    where
      by : (there : Bool) → list_any (same b) known ≡ there → IsKnown (cond there known (known ++ b ∷ [])) b
      by true is = is
      by false is = any_last (same b) known b (same_told b b refl)

with_known : (known : List (List ℕ)) (o : Option (List ℕ)) (c : List ℕ) → IsKnown known c → IsKnown (with_begun known o) c
with_known known None c is = is
with_known known (Some b) c is = kept_known known b c is

-- ---- open activations
abbrev AreKnown : List (List ℕ) → List Activation → Type 0
AreKnown known calls = (k : ℕ) → k < length calls → IsKnown known (context_of (drop k calls))

dropped_known : (known : List (List ℕ)) (n : ℕ) (calls : List Activation) → AreKnown known calls → AreKnown known (drop n calls)
dropped_known known n calls are k lt =
    subst (λ (cs : List Activation). IsKnown known (context_of cs)) (sym (drop-drop k n calls)) (are (n + k) (omega (arith, lt, length-drop n calls)))

begun_known : (known : List (List ℕ)) (c : List ℕ) (a : Activation) (calls : List Activation) (b : Bool) → (b ≡ true → c ≡ context_of (a ∷ calls)) → AreKnown known calls →
    AreKnown (with_context known c) (cond b (a ∷ []) [] ++ calls)
begun_known known c a calls false own are k lt = kept_known known c (context_of (drop k calls)) (are k lt)
begun_known known c a calls true own are zero lt = subst (λ x. IsKnown (with_context known c) x) (own refl) (own_known known c)
begun_known known c a calls true own are (suc k) lt = kept_known known c (context_of (drop k calls)) (are k (omega (arith, lt)))

same_number : (n m : ℕ) → nat_eq n m ≡ true → n ≡ m
same_number n m is = grind (arith, nat_tests)

pub open_known : (past : List Event) (t : ℕ) → AreKnown (contexts past) (open_calls past t)
open_known [] t = λ k lt. absurd (omega (arith, lt))
open_known (Ret tid target ∷ past) t =
    dropped_known (contexts past) (count_ending (Ret tid target) t (backs (open_calls past t))) (open_calls past t) (open_known past t)
open_known (End tid ∷ past) t =
    dropped_known (contexts past) (count_ending (End tid) t (backs (open_calls past t))) (open_calls past t) (open_known past t)
open_known (Start tid entry ∷ past) t =
    begun_known (contexts past) (context_of (open_calls (Start tid entry ∷ past) tid)) (record { at = length past; entry = entry; back = None }) (open_calls past t) (nat_eq tid t)
    (λ is. ap (λ u. context_of (open_calls (Start tid entry ∷ past) u)) (same_number tid t is) ∙ ap (λ b. context_of (cond b (record { at = length past; entry = entry; back = None } ∷ []) [] ++ open_calls past t)) is)
    (open_known past t)
open_known (Call tid entry back ∷ past) t =
    begun_known (contexts past) (context_of (open_calls (Call tid entry back ∷ past) tid)) (record { at = length past; entry = entry; back = Some back }) (open_calls past t) (nat_eq tid t)
    (λ is. ap (λ u. context_of (open_calls (Call tid entry back ∷ past) u)) (same_number tid t is) ∙ ap (λ b. context_of (cond b (record { at = length past; entry = entry; back = Some back } ∷ []) [] ++ open_calls past t)) is)
    (open_known past t)
open_known (_ ∷ past) t = open_known past t

-- ---- ended activations
zip_first : (P : List ℕ → Type 0) (cs : List (List ℕ)) (ds : List Done) → All P cs → All (λ (x : List ℕ × Done). P x.0) (zip cs ds)
zip_first P [] ds all = All-nil (λ (x : List ℕ × Done). P x.0)
zip_first P (c ∷ cs) [] all = All-nil (λ (x : List ℕ × Done). P x.0)
zip_first P (c ∷ cs) (d ∷ ds) all = All-cons (λ (x : List ℕ × Done). P x.0) (c, d) (zip cs ds) (All-head P c cs all) (zip_first P cs ds (All-tail P c cs all))

ended_known : (e : Event) (past : List Event) (o : Option ℕ) → All (IsKnown (contexts past)) (contexts_ended e past o)
ended_known e past None = All-nil (IsKnown (contexts past))
ended_known e past (Some t) =
    let calls = open_calls past t in
    let n = length (ending_calls e past t) in
    let within : length (ending_calls e past t) ≤ length (open_calls past t) = omega (arith, length-take (count_ending e t (backs (open_calls past t))) (open_calls past t)) in
    λ i d lt.
    let less : i < length (ending_calls e past t) = omega (arith, lt, length-map-range_with_len (λ k. context_of (drop k (open_calls past t))) 0 (length (ending_calls e past t))) in
    subst (IsKnown (contexts past)) (sym (get_or-map-range_with_len (λ k. context_of (drop k (open_calls past t))) 0 (length (ending_calls e past t)) i i d less (omega arith)))
    (open_known past t i (omega (arith, less, within)))

pub done_known : (past : List Event) → All (λ (x : List ℕ × Done). IsKnown (contexts past) x.0) (done_in_context past)
done_known [] = All-nil (λ (x : List ℕ × Done). IsKnown [] x.0)
done_known (e ∷ past) =
    All-weaker (λ (x : List ℕ × Done). IsKnown (contexts past) x.0) (λ x. IsKnown (contexts (e ∷ past)) x.0)
    (λ x is. with_known (contexts past) (context_begun e past) x.0 is) (done_in_context (e ∷ past))
    (All-append (λ (x : List ℕ × Done). IsKnown (contexts past) x.0) (done_in_context past) (zip (contexts_ended e past (thread_of e)) (ended e past)) (done_known past)
    (zip_first (IsKnown (contexts past)) (contexts_ended e past (thread_of e)) (ended e past) (ended_known e past (thread_of e))))

-- a context that did not begin has none
pub no_members : (known : List (List ℕ)) (c : List ℕ) (all : List (List ℕ × Done)) → All (λ (x : List ℕ × Done). IsKnown known x.0) all → list_any (same c) known ≡ false → members_of all c ≡ []
no_members known c [] are none = refl
no_members known c (x ∷ xs) are none =
    by (same c x.0) refl (no_members known c xs (All-tail (λ (x : List ℕ × Done). IsKnown known x.0) x xs are) none)
  where
    by : (b : Bool) → same c x.0 ≡ b → members_of xs c ≡ [] → map (λ (y : List ℕ × Done). y.1) (cond b (x ∷ filter (λ (y : List ℕ × Done). same c y.0) xs) (filter (λ (y : List ℕ × Done). same c y.0) xs)) ≡ []
    by false other rest = rest
    by true is rest =
        let there : c ≡ x.0 = told_text c x.0 true (sym is) in
        let known_here : list_any (same c) known ≡ true = subst (λ b. list_any (same b) known ≡ true) (sym there) (All-head (λ (x : List ℕ × Done). IsKnown known x.0) x xs are) in
        absurd (cc)
