-- The pending activations are the open ones of all threads.
use Rattle.std.proofs.Common.{inl, inr, ◌≡◌, ◌≢◌, ℕ, zero, suc, ◌+◌, ◌-◌, ◌<◌, ◌≤◌, cond, eqb, List, [], ◌∷◌, ◌++◌, length, take, drop, Option, Some, None, refl, sym, ap, ◌∙◌, arith}
use Rattle.std.specs.Prelude.{sum_by, IfSome}
use Rattle.std.specs.List.{range_with_len}
use Rattle.std.proofs.lemmas.Bool.{eq-eqb, ne_eqb, cases_eq, cases_lt}
use Rattle.std.proofs.lemmas.List.{length-append, length-map, take-append-drop}
use Rattle.std.proofs.lemmas.List.Sums.{sum_by-cons}
use Rattle.std.proofs.lemmas.List.Elements.{All-nil, All-cons, All-head, All-tail, All-weaker}
use Rattle.trace_model.specs.declared.event_kinds.Event.{Event}
use Rattle.trace_model.specs.declared.event_kinds.Event.TheVariants.{Step, Read, Write, Fill, Call, Ret, Start, End}
use Rattle.trace_model.specs.declared.activations.Activation.{Activation}
use Rattle.trace_model.specs.Events.{thread_of}
use Rattle.trace_model.specs.Activations.{backs, begun, count_ending, count_returned, calls_after, ending_calls, open_calls}
use Rattle.trace_model.specs.Depth.{pending, count_begun, count_ended}
use Rattle.trace_model.specs.Profile.{done, done_of, ended, ended_of}
use Rattle.trace_model.specs.Laws.{AreThreadsBelow, begun_count}

abbrev Below : ℕ → Event → Type 0
Below n e = IfSome (thread_of e) (λ t. t < n)

-- a sum over numbers of which none changed
sum_same : (f g : ℕ → ℕ) (a base n : ℕ) → ((t : ℕ) → t ≢ a → g t ≡ f t) → a < base →
    sum_by g (range_with_len base n) ≡ sum_by f (range_with_len base n)
sum_same f g a base zero same above = refl
sum_same f g a base (suc n) same above =
    omega (
      arith,
      sum_by-cons f base (range_with_len (base + 1) n),
      sum_by-cons g base (range_with_len (base + 1) n),
      same base (λ e. omega (arith, e)),
      sum_same f g a (base + 1) n same (omega arith),
    )

-- a sum over numbers of which one changed
sum_changed : (f g : ℕ → ℕ) (a base n : ℕ) → ((t : ℕ) → t ≢ a → g t ≡ f t) → base ≤ a → a < base + n →
    (sum_by g (range_with_len base n) + f a ≡ sum_by f (range_with_len base n) + g a) × (f a ≤ sum_by f (range_with_len base n))
sum_changed f g a base zero same low high = absurd (omega arith)
sum_changed f g a base (suc n) same low high =
    let of_f = sum_by-cons f base (range_with_len (base + 1) n) in
    let of_g = sum_by-cons g base (range_with_len (base + 1) n) in
    elim (cases_eq base a) [
      | inl here ↦
          let rest = sum_same f g a (base + 1) n same (omega (arith, here)) in
          (omega (arith, of_f, of_g, rest, ap f here, ap g here), omega (arith, of_f, ap f here))
      | inr later ↦
          let rest = sum_changed f g a (base + 1) n same (one_more base a low later) (omega arith) in
          (omega (arith, of_f, of_g, rest.0, same base later), omega (arith, of_f, rest.1))
    ]
  where
    one_more : (base a : ℕ) → base ≤ a → (base ≡ a → ⊥) → base + 1 ≤ a
    one_more base a low later = elim (cases_lt base a) [
      | inl below ↦ omega (arith, below)
      | inr above ↦ absurd (later (omega (arith, above, low)))
    ]

sum_zero : (base n : ℕ) → sum_by (λ (t : ℕ). 0) (range_with_len base n) ≡ 0
sum_zero base zero = refl
sum_zero base (suc n) = omega (arith, sum_by-cons (λ (t : ℕ). 0) base (range_with_len (base + 1) n), sum_zero (base + 1) n)

parts : (n : ℕ) (calls : List Activation) → length (take n calls) + length (drop n calls) ≡ length calls
parts n calls = sym (length-append (take n calls) (drop n calls)) ∙ ap length (take-append-drop n calls)

-- the event changes the open activations of its thread alone, by what it begins and ends
record Changes (e : Event) (a : ℕ) : Type 0 where
  other : (t at : ℕ) (calls : List Activation) → t ≢ a → length (calls_after e t at calls) ≡ length calls
  new : (at : ℕ) → length (begun e a at) ≡ count_begun e

changes_none : (e : Event) (a : ℕ) → ((t at : ℕ) → begun e t at ≡ []) → ((t : ℕ) (bs : List (Option ℕ)) → t ≢ a → count_ending e t bs ≡ 0) →
    count_begun e ≡ 0 → Changes e a
changes_none e a none kept zero_begun = record {
  other = λ t at calls apart. ap (λ b. length (b ++ drop (count_ending e t (backs calls)) calls)) (none t at)
      ∙ ap (λ n. length (drop n calls)) (kept t (backs calls) apart);
  new = λ at. ap length (none a at) ∙ sym zero_begun;
}

changes_one : (e : Event) (a : ℕ) (one : ℕ → Activation) → ((t at : ℕ) → begun e t at ≡ cond (eqb a t) (one at ∷ []) []) →
    ((t : ℕ) (bs : List (Option ℕ)) → count_ending e t bs ≡ 0) → count_begun e ≡ 1 → Changes e a
changes_one e a one begins kept one_begun = record {
  other = λ t at calls apart. ap (λ b. length (b ++ drop (count_ending e t (backs calls)) calls))
      (begins t at ∙ ap (λ b. cond b (one at ∷ []) []) (ne_eqb a t (λ same. apart (sym same))))
      ∙ ap (λ n. length (drop n calls)) (kept t (backs calls));
  new = λ at. ap length (begins a at ∙ ap (λ b. cond b (one at ∷ []) []) (eq-eqb a a refl)) ∙ sym one_begun;
}

abbrev open_count : List Event → ℕ → ℕ
open_count past t = length (open_calls past t)

abbrev all_open : List Event → ℕ → ℕ
all_open past n = sum_by (open_count past) (range_with_len 0 n)

of_thread : (e : Event) (a n : ℕ) (past : List Event) → Changes e a →
    pending (e ∷ past) ≡ (pending past - length (ending_calls e past a)) + count_begun e →
    a < n → pending past ≡ all_open past n → pending (e ∷ past) ≡ all_open (e ∷ past) n
of_thread e a n past change is below before =
    let calls = open_calls past a in
    let k = count_ending e a (backs calls) in
    let all = sum_changed (open_count past) (open_count (e ∷ past)) a 0 n
    (λ t apart. change.other t (length past) (open_calls past t) apart) (omega arith) (omega (arith, below)) in
    omega (
      arith,
      is,
      before,
      all.0,
      all.1,
      parts k calls,
      change.new (length past),
      length-append (begun e a (length past)) (drop k calls),
    )

not_own : (a t m : ℕ) → t ≢ a → cond (eqb a t) m 0 ≡ 0
not_own a t m apart = ap {B = ℕ} (λ b. cond b m 0) (ne_eqb a t (λ same. apart (sym same)))

more : (e : Event) (past : List Event) (n : ℕ) → Below n e → pending past ≡ all_open past n → pending (e ∷ past) ≡ all_open (e ∷ past) n
more (Step a) past n below before =
    of_thread (Step a) a n past (changes_none (Step a) a (λ t at. refl) (λ t bs apart. refl) refl) refl below before
more (Read a first count) past n below before =
    of_thread (Read a first count) a n past (changes_none (Read a first count) a (λ t at. refl) (λ t bs apart. refl) refl) refl below before
more (Write a first count) past n below before =
    of_thread (Write a first count) a n past (changes_none (Write a first count) a (λ t at. refl) (λ t bs apart. refl) refl) refl below before
more (Fill first count) past n below before = omega (arith, before)
more (Call a entry back) past n below before =
    of_thread (Call a entry back) a n past
    (changes_one (Call a entry back) a (λ at. record { at = at; entry = entry; back = Some back }) (λ t at. refl) (λ t bs. refl) refl) refl below before
more (Ret a target) past n below before =
    of_thread (Ret a target) a n past
    (changes_none (Ret a target) a (λ t at. refl) (λ t bs apart. not_own a t (count_returned target bs) apart) refl) refl below before
more (Start a entry) past n below before =
    of_thread (Start a entry) a n past
    (changes_one (Start a entry) a (λ at. record { at = at; entry = entry; back = None }) (λ t at. refl) (λ t bs. refl) refl) refl below before
more (End a) past n below before =
    of_thread (End a) a n past
    (changes_none (End a) a (λ t at. refl) (λ t bs apart. not_own a t (length bs) apart) refl) refl below before

pub pending-threads : (past : List Event) (n : ℕ) → AreThreadsBelow n past → pending past ≡ all_open past n
pending-threads [] n below = sym (sum_zero 0 n)
pending-threads (e ∷ past) n below =
    more e past n (All-head (Below n) e past below) (pending-threads past n (All-tail (Below n) e past below))

-- a number above that of each thread in the trace
abbrev tid_bound : Option ℕ → ℕ
tid_bound None = 0
tid_bound (Some t) = t + 1

abbrev bound : List Event → ℕ
bound [] = 0
bound (e ∷ past) = tid_bound (thread_of e) + bound past

below_bound : (o : Option ℕ) (n m : ℕ) → m ≡ tid_bound o + n → IfSome o (λ t. t < m)
below_bound None n m is = tt
below_bound (Some t) n m is = omega (arith, is)

below_more : (o : Option ℕ) (n m : ℕ) → n ≤ m → IfSome o (λ t. t < n) → IfSome o (λ t. t < m)
below_more None n m more below = tt
below_more (Some t) n m more below = omega (arith, more, below)

all_below : (past : List Event) → AreThreadsBelow (bound past) past
all_below [] = All-nil (Below 0)
all_below (e ∷ past) =
    let n = bound (e ∷ past) in
    All-cons (Below n) e past (below_bound (thread_of e) (bound past) n refl)
    (All-weaker (Below (bound past)) (Below n) (λ x h. below_more (thread_of x) (bound past) n (omega arith) h) past (all_below past))

-- a thread has no more open activations than there are in all
pub open_calls-le-pending : (past : List Event) (t : ℕ) → length (open_calls past t) ≤ pending past
open_calls-le-pending past t =
    let n = (t + 1) + bound past in
    let below = All-weaker (Below (bound past)) (Below n) (λ x h. below_more (thread_of x) (bound past) n (omega arith) h) past (all_below past) in
    let all = sum_changed (open_count past) (open_count past) t 0 n (λ u apart. refl) (omega arith) (omega arith) in
    omega (arith, all.1, pending-threads past n below)

ended_pending : (e : Event) (past : List Event) (o : Option ℕ) → length (ended_of past e o) ≤ pending past × (length (ended_of past e o) ≡ count_ended e past o)
ended_pending e past None = (omega arith, refl)
ended_pending e past (Some t) =
    let calls = open_calls past t in
    let k = count_ending e t (backs calls) in
    let same = length-map (ending_calls e past t) (done_of past t) in
    (omega (arith, open_calls-le-pending past t, parts k calls, same), same)

pub done-pending : (past : List Event) → length (done past) + pending past ≡ begun_count past
done-pending [] = refl
done-pending (e ∷ past) =
    let ending = ended_pending e past (thread_of e) in
    omega (arith, length-append (done past) (ended e past), ending.0, ending.1, done-pending past)
