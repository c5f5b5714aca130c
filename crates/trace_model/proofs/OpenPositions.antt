-- Open activations are positions, and each event changes them by its rule.
use Rattle.std.proofs.Common.{◌≡◌, ℕ, suc, ◌+◌, ◌<◌, Bool, true, false, not, cond, eqb, List, [], ◌∷◌, ◌++◌, length, drop, map, get_or, Option, Some, None, refl, sym, ap, ◌∙◌, subst, arith}
use Rattle.std.specs.Prelude.{All}
use Rattle.std.specs.List.{position_or_len}
use Rattle.std.proofs.lemmas.Bool.{eq-eqb, eqb-true, ne_eqb, lt-ltb, le-ltb, false≢true, false_from_ne_true}
use Rattle.std.proofs.lemmas.List.{length-append, length-map, drop_all}
use Rattle.std.proofs.lemmas.List.Elements.{All-nil, All-cons, All-head, All-tail, All-append, All-drop, All-weaker}
use Rattle.std.proofs.lemmas.Option.{same_Some}
use Rattle.trace_model.specs.declared.event_kinds.Event.{Event}
use Rattle.trace_model.specs.declared.event_kinds.Event.TheVariants.{Step, Read, Write, Fill, Call, Ret, Start, End}
use Rattle.trace_model.specs.declared.activations.Activation.{Activation}
use Rattle.trace_model.specs.Activations.{is_back, count_returned, begun, count_ending, backs, open_calls}
use Rattle.trace_model.specs.Positions.{event_at, open_positions, beginning, IsCallFrom, IsBeginOrEnd, OpenActivationsArePositions}
use Rattle.trace_model.proofs.Ended.{open_calls_begun}
use Rattle.trace_model.proofs.Pairs.{Later, pairs, later_drop, later_map}
use Rattle.trace_model.proofs.Positions.{event_new, event_old, event_within}

-- the activation began at the event at its position
abbrev pub Begun : List Event → ℕ → Activation → Type 0
Begun past t a = event_at past a.at ≡ Some (beginning t a.entry a.back)

begun_if : (past : List Event) (t : ℕ) (b : Bool) (a : Activation) → (b ≡ true → Begun past t a) → All (Begun past t) (cond b (a ∷ []) [])
begun_if past t true a h = All-cons (Begun past t) a [] (h refl) (All-nil (Begun past t))
begun_if past t false a h = All-nil (Begun past t)

begun_new : (e : Event) (past : List Event) (t : ℕ) → All (Begun (e ∷ past) t) (begun e t (length past))
begun_new (Call a entry back) past t =
    begun_if (Call a entry back ∷ past) t (eqb a t) (record { at = length past; entry = entry; back = Some back })
    (λ same. event_new (Call a entry back) past ∙ ap (λ u. Some (Call u entry back)) (eqb-true a t same))
begun_new (Start a entry) past t =
    begun_if (Start a entry ∷ past) t (eqb a t) (record { at = length past; entry = entry; back = None })
    (λ same. event_new (Start a entry) past ∙ ap (λ u. Some (Start u entry)) (eqb-true a t same))
begun_new (Step a) past t = All-nil (Begun (Step a ∷ past) t)
begun_new (Read a first count) past t = All-nil (Begun (Read a first count ∷ past) t)
begun_new (Write a first count) past t = All-nil (Begun (Write a first count ∷ past) t)
begun_new (Fill first count) past t = All-nil (Begun (Fill first count ∷ past) t)
begun_new (Ret a target) past t = All-nil (Begun (Ret a target ∷ past) t)
begun_new (End a) past t = All-nil (Begun (End a ∷ past) t)

begun_old : (e : Event) (past : List Event) (t : ℕ) (a : Activation) → Begun past t a → Begun (e ∷ past) t a
begun_old e past t a h = event_old e past a.at (event_within past a.at (beginning t a.entry a.back) h) ∙ h

pub each_begun : (past : List Event) (t : ℕ) → All (Begun past t) (open_calls past t)
each_begun [] t = All-nil (Begun [] t)
each_begun (e ∷ past) t =
    let calls = open_calls past t in
    let k = count_ending e t (backs calls) in
    All-append (Begun (e ∷ past) t) (begun e t (length past)) (drop k calls) (begun_new e past t)
    (All-drop (Begun (e ∷ past) t) k calls (All-weaker (Begun past t) (Begun (e ∷ past) t) (begun_old e past t) calls (each_begun past t)))

-- an activation began after another
abbrev pub IsAfter : Activation → Activation → Type 0
IsAfter a b = b.at < a.at

front_if : (b : Bool) (a : Activation) (calls : List Activation) → All (IsAfter a) calls → Later IsAfter calls → Later IsAfter (cond b (a ∷ []) [] ++ calls)
front_if true a calls first h = (first, h)
front_if false a calls first h = h

front : (e : Event) (t n : ℕ) (calls : List Activation) → All (λ a. a.at < n) calls → Later IsAfter calls → Later IsAfter (begun e t n ++ calls)
front (Call a entry back) t n calls first h = front_if (eqb a t) (record { at = n; entry = entry; back = Some back }) calls first h
front (Start a entry) t n calls first h = front_if (eqb a t) (record { at = n; entry = entry; back = None }) calls first h
front _ t n calls first h = h

-- the innermost began last
pub innermost_last : (past : List Event) (t : ℕ) → Later IsAfter (open_calls past t)
innermost_last [] t = tt
innermost_last (e ∷ past) t =
    let calls = open_calls past t in
    let k = count_ending e t (backs calls) in
    front e t (length past) (drop k calls) (All-drop (λ a. a.at < length past) k calls (open_calls_begun past t)) (later_drop IsAfter k calls (innermost_last past t))

is_call : Event → Bool
is_call (Call a entry back) = true
is_call e = false

back_of : Event → ℕ
back_of (Call a entry back) = back
back_of e = 0

-- an open activation has the target as its return address where its event is such a call
call_from : (past : List Event) (t target at entry : ℕ) (o : Option ℕ) → event_at past at ≡ Some (beginning t entry o) → is_back target o ≡ true → IsCallFrom past t target at
call_from past t target at entry None is holds = absurd (false≢true holds)
call_from past t target at entry (Some back) is holds = (entry, is ∙ ap (λ b. Some (Call t entry b)) (eqb-true back target holds))

is_from : (past : List Event) (t target at entry : ℕ) (o : Option ℕ) → event_at past at ≡ Some (beginning t entry o) → IsCallFrom past t target at → is_back target o ≡ true
unfolding is_call back_of
is_from past t target at entry None is (other, call) =
    absurd (false≢true (ap is_call (same_Some (Start t entry) (Call t other target) (sym is ∙ call))))
is_from past t target at entry (Some back) is (other, call) =
    eq-eqb back target (ap back_of (same_Some (Call t entry back) (Call t other target) (sym is ∙ call)))

not_from : (past : List Event) (t target : ℕ) (a : Activation) → Begun past t a → ¬ IsCallFrom past t target a.at → is_back target a.back ≡ false
not_from past t target a is fails = false_from_ne_true (is_back target a.back) (λ holds. fails (call_from past t target a.at a.entry a.back is holds))

abbrev position : ℕ → List Activation → ℕ
position target calls = position_or_len (is_back target) (backs calls)

here : (target : ℕ) (a : Activation) (calls : List Activation) → is_back target a.back ≡ true → position target (a ∷ calls) ≡ 0
here target a calls holds = ap (λ b. cond (not b) (1 + position target calls) 0) holds

on : (target : ℕ) (a : Activation) (calls : List Activation) → is_back target a.back ≡ false → position target (a ∷ calls) ≡ suc (position target calls)
on target a calls fails = ap (λ b. cond (not b) (1 + position target calls) 0) fails ∙ one (position target calls)
  where
    one : (n : ℕ) → 1 + n ≡ suc n
    one n = omega arith

abbrev at_of : Activation → ℕ
at_of a = a.at

-- the first such call among the open activations
first_call : (past : List Event) (t target : ℕ) (calls : List Activation) (inner : List ℕ) (p : ℕ) (outer : List ℕ) → All (Begun past t) calls → map at_of calls ≡ inner ++ p ∷ outer →
    IsCallFrom past t target p → All (λ i. ¬ IsCallFrom past t target i) inner →
    (position target calls < length calls) × (map at_of (drop (suc (position target calls)) calls) ≡ outer)
first_call past t target [] inner p outer begun is from none = absurd (omega (arith, ap length is, length-append inner (p ∷ outer)))
first_call past t target (a ∷ calls) [] p outer begun is from none =
    let first : a.at ≡ p = ap (λ ps. get_or ps 0 0) is in
    let holds = is_from past t target a.at a.entry a.back (All-head (Begun past t) a calls begun) (subst (IsCallFrom past t target) (sym first) from) in
    let k = here target a calls holds in
    (omega (arith, k), ap (λ n. map at_of (drop (suc n) (a ∷ calls))) k ∙ ap (drop 1) is)
first_call past t target (a ∷ calls) (i ∷ inner) p outer begun is from none =
    let first : i ≡ a.at = sym (ap (λ ps. get_or ps 0 0) is) in
    let head = All-head (λ j. ¬ IsCallFrom past t target j) i inner none in
    let fails = not_from past t target a (All-head (Begun past t) a calls begun) (subst (λ j. ¬ IsCallFrom past t target j) first head) in
    let k = on target a calls fails in
    let rest = first_call past t target calls inner p outer (All-tail (Begun past t) a calls begun) (ap (drop 1) is) from (All-tail (λ j. ¬ IsCallFrom past t target j) i inner none) in
    (omega (arith, k, rest.0), ap (λ n. map at_of (drop (suc n) (a ∷ calls))) k ∙ rest.1)

no_call : (past : List Event) (t target : ℕ) (calls : List Activation) → All (Begun past t) calls → All (λ p. ¬ IsCallFrom past t target p) (map at_of calls) → position target calls ≡ length calls
no_call past t target [] begun none = refl
no_call past t target (a ∷ calls) begun none =
    let fails = not_from past t target a (All-head (Begun past t) a calls begun) (All-head (λ p. ¬ IsCallFrom past t target p) a.at (map at_of calls) none) in
    let rest = no_call past t target calls (All-tail (Begun past t) a calls begun) (All-tail (λ p. ¬ IsCallFrom past t target p) a.at (map at_of calls) none) in
    on target a calls fails ∙ ap suc rest

-- how many a return ends
returned : (target : ℕ) (calls : List Activation) → position target calls < length calls → count_returned target (backs calls) ≡ suc (position target calls)
returned target calls within =
    let k = position target calls in
    ap (λ b. cond b (k + 1) 0) (lt-ltb k (length (backs calls)) (omega (arith, within, length-map calls (λ (a : Activation). a.back)))) ∙ one k
  where
    one : (n : ℕ) → n + 1 ≡ suc n
    one n = omega arith

not_returned : (target : ℕ) (calls : List Activation) → position target calls ≡ length calls → count_returned target (backs calls) ≡ 0
not_returned target calls past =
    let k = position target calls in
    ap (λ b. cond b (k + 1) 0) (le-ltb k (length (backs calls)) (omega (arith, past, length-map calls (λ (a : Activation). a.back))))

after_ret : (past : List Event) (t target n : ℕ) → count_returned target (backs (open_calls past t)) ≡ n → open_positions (Ret t target ∷ past) t ≡ map at_of (drop n (open_calls past t))
after_ret past t target n is =
    let calls = open_calls past t in
    ap (λ b. map at_of (drop (cond b (count_returned target (backs calls)) 0) calls)) (eq-eqb t t refl) ∙ ap (λ k. map at_of (drop k calls)) is

after_end : (past : List Event) (t : ℕ) → open_positions (End t ∷ past) t ≡ []
after_end past t =
    let calls = open_calls past t in
    ap (λ b. map at_of (drop (cond b (length (backs calls)) 0) calls)) (eq-eqb t t refl)
    ∙ ap (map at_of) (drop_all (length (backs calls)) calls (omega (arith, length-map calls (λ (a : Activation). a.back))))

after_start : (past : List Event) (t entry : ℕ) → open_positions (Start t entry ∷ past) t ≡ length past ∷ open_positions past t
after_start past t entry =
    ap (λ b. map at_of (cond b (record { at = length past; entry = entry; back = None } ∷ []) [] ++ open_calls past t)) (eq-eqb t t refl)

after_call : (past : List Event) (t entry back : ℕ) → open_positions (Call t entry back ∷ past) t ≡ length past ∷ open_positions past t
after_call past t entry back =
    ap (λ b. map at_of (cond b (record { at = length past; entry = entry; back = Some back } ∷ []) [] ++ open_calls past t)) (eq-eqb t t refl)

after_other : (e : Event) (past : List Event) (t : ℕ) → ¬ IsBeginOrEnd e t → open_positions (e ∷ past) t ≡ open_positions past t
after_other (Call a entry back) past t fails =
    ap (λ b. map at_of (cond b (record { at = length past; entry = entry; back = Some back } ∷ []) [] ++ open_calls past t)) (ne_eqb a t fails)
after_other (Start a entry) past t fails =
    ap (λ b. map at_of (cond b (record { at = length past; entry = entry; back = None } ∷ []) [] ++ open_calls past t)) (ne_eqb a t fails)
after_other (Ret a target) past t fails =
    ap (λ b. map at_of (drop (cond b (count_returned target (backs (open_calls past t))) 0) (open_calls past t))) (ne_eqb a t fails)
after_other (End a) past t fails =
    ap (λ b. map at_of (drop (cond b (length (backs (open_calls past t))) 0) (open_calls past t))) (ne_eqb a t fails)
after_other _ past t fails = refl

pub by_positions : OpenActivationsArePositions
by_positions = record {
  begun = each_begun;
  fall = λ past t. pairs (λ p q. q < p) (open_positions past t) (later_map (λ p q. q < p) at_of (open_calls past t) (innermost_last past t));
  none = λ t. refl;
  start = after_start;
  call = after_call;
  ret = λ past t target p inner outer is from none.
      let found = first_call past t target (open_calls past t) inner p outer (each_begun past t) is from none in
      after_ret past t target (suc (position target (open_calls past t))) (returned target (open_calls past t) found.0) ∙ found.1;
  unmatched = λ past t target none.
      after_ret past t target 0 (not_returned target (open_calls past t) (no_call past t target (open_calls past t) (each_begun past t) none));
  end = after_end;
  others = after_other;
}
