-- What an event does to the open calls of all threads.
use Rattle.std.proofs.Common.{◌≡◌, ℕ, ◌<◌, ◌≤◌, ◌+◌, ◌-◌, ◌^◌, max, Bool, true, false, cond, All, List, [], ◌∷◌, ◌++◌, length, map, take, drop, Option, Some, None, refl, ap, sym, ◌∙◌, arith, not}
use Rattle.std.specs.Prelude.{◌==◌, ◌||◌, ◌&&◌, nat_eq, nat_lt, is_some}
use Rattle.std.specs.Option.{option_map_or}
use Rattle.std.specs.List.{position_or_len}
use Rattle.std.proofs.lemmas.Bool.{eq-eqb, eqb-true}
use Rattle.std.proofs.lemmas.Bool.Decides.{nat_tests}
use Rattle.std.proofs.lemmas.List.{length-map, length-take-le, drop-map, drop_all, map-append}
use Rattle.std.proofs.lemmas.List.Elements.{All-push, All-weaker, All-same}
use Rattle.guest_words.specs.ByThread.{numbers, value_of, with_value, without_thread}
use Rattle.guest_words.proofs.ThreadTables.{All-numbers-without, numbers-with, value_of-above, value_of-pushed, value_of-with, value_of-without}
use Rattle.trace_model.specs.declared.event_kinds.Event.{Event}
use Rattle.trace_model.specs.declared.event_kinds.Event.TheVariants.{Step, Call, Ret, Start, End}
use Rattle.trace_model.specs.declared.activations.Activation.{Activation}
use Rattle.trace_model.specs.Events.{thread_of}
use Rattle.trace_model.specs.Activations.{count_returned, is_back, open_calls}
use Rattle.trace_model.specs.Activations as activations
use Rattle.trace_model.specs.Depth.{count_begun, count_ended, pending}
use Rattle.trace_model.specs.WellFormed.{IsLight, IsRunning, MayFollow, greatest_start, is_live, weight, weight_of}
use Rattle.trace_model.proofs.Pending.{open_calls-le-pending}
use Rattle.call_tracker.specs.declared.open_calls.OpenCall.{OpenCall}
use Rattle.call_tracker.specs.Calls.{backs}
use Rattle.call_tracker.specs.CallStacks.{StacksStandFor, Stacks, call_of, calls_after, calls_of}

-- ---- the number of the open calls
one-le-weight_of : (e : Event) → count_begun e ≤ weight_of e
one-le-weight_of (Step _) = omega arith
one-le-weight_of _ = omega arith

pub pending-le-weight : (past : List Event) → pending past ≤ weight past
pending-le-weight [] = omega arith
pending-le-weight (e ∷ past) = omega (arith, pending-le-weight past, one-le-weight_of e)

-- one call more can be counted
pub few_pending : (stacks : Stacks) (past : List Event) (e : Event) → StacksStandFor stacks past → IsLight (e ∷ past) → stacks.pending + 1 < 2 ^ 64
few_pending stacks past e stands light = omega (arith, stands.pending_is, pending-le-weight past, light)

-- a thread has no more open calls than there are
pub few_calls : (stacks : Stacks) (past : List Event) (t : ℕ) → StacksStandFor stacks past → length (calls_of stacks t) ≤ stacks.pending
few_calls stacks past t stands =
    omega (arith, ap length (stands.calls_are t), length-map (open_calls past t) call_of, open_calls-le-pending past t, stands.pending_is)

-- ---- what may come
-- a thread that starts has a number above all
pub above_all : (stacks : Stacks) (past : List Event) (tid entry : ℕ) → MayFollow (Start tid entry) past → StacksStandFor stacks past → All (λ n. n < tid) (numbers stacks.threads)
above_all stacks past tid entry may stands =
    All-weaker (λ n. n ≤ greatest_start past) (λ n. n < tid) (λ n low. omega (arith, low, may)) (numbers stacks.threads) stands.threads_began

-- a thread that runs is kept
pub running_kept : (stacks : Stacks) (past : List Event) (tid : ℕ) → IsRunning past tid → StacksStandFor stacks past → is_some (value_of stacks.threads tid) ≡ true
running_kept stacks past tid running stands = stands.threads_live tid ∙ running.0

-- ---- numbers that are equal
turned : (n m : ℕ) (b : Bool) → (n == m) ≡ b → nat_eq m n ≡ b
turned n m true is = let same : n ≡ m = eqb-true n m is in let there : nat_eq m n ≡ true = grind (arith, nat_tests, same) in there
turned n m false is = grind (arith, nat_tests, is)

abbrev calls_or_none : Option (List OpenCall) → List OpenCall
calls_or_none o = option_map_or (λ calls. calls) o []

-- what a thread that is kept has
some_kept : (o : Option (List OpenCall)) → is_some o ≡ true → o ≡ Some (calls_or_none o)
some_kept None is = absurd (cc)
some_kept (Some calls) is = refl

-- ---- a thread starts
module _ (old new : Stacks) (past : List Event) (tid entry : ℕ)
    (threads : new.threads ≡ old.threads ++ (tid, record { entry = entry; back = None } ∷ []) ∷ [])
    (counted : new.pending ≡ old.pending + 1) (above : All (λ n. n < tid) (numbers old.threads)) (stands : StacksStandFor old past) where
  abbrev first_calls : List OpenCall
  first_calls = record { entry = entry; back = None } ∷ []

  reads_started : (t : ℕ) → value_of new.threads t ≡ cond (tid == t) (Some first_calls) (value_of old.threads t)
  reads_started t = ap (λ (xs : List (ℕ × List OpenCall)). value_of xs t) threads ∙ value_of-pushed old.threads tid first_calls above t

  live_started : (t : ℕ) (b : Bool) → (tid == t) ≡ b → is_some (cond b (Some first_calls) (value_of old.threads t)) ≡ (nat_eq t tid || is_live past t)
  live_started t true is = sym (ap (λ b. b || is_live past t) (turned tid t true is))
  live_started t false is = stands.threads_live t ∙ sym (ap (λ b. b || is_live past t) (turned tid t false is))

  -- it had no calls before
  no_calls : (t : ℕ) → (tid == t) ≡ true → calls_after past t ≡ []
  no_calls t is =
      sym (stands.calls_are t)
      ∙ ap calls_or_none (ap (λ n. value_of old.threads n) (sym (eqb-true tid t is)) ∙ value_of-above old.threads tid above)

  calls_started : (t : ℕ) (b : Bool) → (tid == t) ≡ b →
      calls_or_none (cond b (Some first_calls) (value_of old.threads t)) ≡ map call_of (cond b (record { at = length past; entry = entry; back = None } ∷ []) [] ++ open_calls past t)
  calls_started t true is = ap (λ (cs : List OpenCall). record { entry = entry; back = None } ∷ cs) (sym (no_calls t is))
  calls_started t false is = stands.calls_are t

  pub stands-start : StacksStandFor new (Start tid entry ∷ past)
  stands-start = record {
    threads_live = λ t. ap is_some (reads_started t) ∙ live_started t (tid == t) refl;
    threads_began = All-same (λ n. n ≤ max tid (greatest_start past)) (numbers new.threads) (numbers old.threads ++ tid ∷ [])
        (ap numbers threads ∙ map-append (λ x. x.0) old.threads ((tid, first_calls) ∷ []))
        (All-push (λ n. n ≤ max tid (greatest_start past)) (numbers old.threads) tid
        (All-weaker (λ n. n < tid) (λ n. n ≤ max tid (greatest_start past)) (λ n low. omega (arith, low)) (numbers old.threads) above) (omega arith));
    calls_are = λ t. ap calls_or_none (reads_started t) ∙ calls_started t (tid == t) refl;
    pending_is = omega (arith, counted, stands.pending_is);
  }

-- ---- a thread has other calls
module _ (old new : Stacks) (past : List Event) (tid : ℕ) (calls : List OpenCall)
    (lives : is_some (value_of old.threads tid) ≡ true) (threads : new.threads ≡ with_value old.threads tid calls) (stands : StacksStandFor old past) where
  reads_changed : (t : ℕ) → value_of new.threads t ≡ cond (tid == t) (Some calls) (value_of old.threads t)
  reads_changed t =
      ap (λ (xs : List (ℕ × List OpenCall)). value_of xs t) threads
      ∙ value_of-with old.threads tid calls (calls_of old tid) (some_kept (value_of old.threads tid) lives) t

  live_changed : (t : ℕ) (b : Bool) → (tid == t) ≡ b → is_some (cond b (Some calls) (value_of old.threads t)) ≡ is_live past t
  live_changed t true is = sym lives ∙ ap (λ n. is_some (value_of old.threads n)) (eqb-true tid t is) ∙ stands.threads_live t
  live_changed t false is = stands.threads_live t

  still_live : (t : ℕ) → is_some (value_of new.threads t) ≡ is_live past t
  still_live t = ap is_some (reads_changed t) ∙ live_changed t (tid == t) refl

  still_began : All (λ n. n ≤ greatest_start past) (numbers new.threads)
  still_began =
      All-same (λ n. n ≤ greatest_start past) (numbers new.threads) (numbers old.threads)
      (ap numbers threads ∙ numbers-with old.threads tid calls) stands.threads_began

  changed : (f : ℕ → List OpenCall) → f tid ≡ calls → ((t : ℕ) → (tid == t) ≡ false → f t ≡ calls_after past t) → (t : ℕ) → calls_of new t ≡ f t
  changed f own others t = ap calls_or_none (reads_changed t) ∙ by (tid == t) refl
    where
      by : (b : Bool) → (tid == t) ≡ b → calls_or_none (cond b (Some calls) (value_of old.threads t)) ≡ f t
      by true is = sym own ∙ ap f (eqb-true tid t is)
      by false is = stands.calls_are t ∙ sym (others t is)

-- a call
pub stands-call : (old new : Stacks) (past : List Event) (tid entry back : ℕ) → is_some (value_of old.threads tid) ≡ true →
    new.threads ≡ with_value old.threads tid (record { entry = entry; back = Some back } ∷ calls_of old tid) → new.pending ≡ old.pending + 1 → StacksStandFor old past →
    StacksStandFor new (Call tid entry back ∷ past)
stands-call old new past tid entry back lives threads counted stands =
    let calls : List OpenCall = record { entry = entry; back = Some back } ∷ calls_of old tid in
    record {
      threads_live = still_live old new past tid calls lives threads stands;
      threads_began = still_began old new past tid calls lives threads stands;
      calls_are = changed old new past tid calls lives threads stands (λ t. calls_after (Call tid entry back ∷ past) t)
          (ap (λ b. map call_of (cond b (record { at = length past; entry = entry; back = Some back } ∷ []) [] ++ open_calls past tid)) (eq-eqb tid tid refl)
          ∙ ap (λ (cs : List OpenCall). record { entry = entry; back = Some back } ∷ cs) (sym (stands.calls_are tid)))
          (λ t isnt. ap (λ b. map call_of (cond b (record { at = length past; entry = entry; back = Some back } ∷ []) [] ++ open_calls past t)) isnt);
      pending_is = omega (arith, counted, stands.pending_is);
    }

-- a return
returned-le : (target : ℕ) (bs : List (Option ℕ)) → count_returned target bs ≤ length bs
returned-le target bs = by (nat_lt (position_or_len (is_back target) bs) (length bs)) refl
  where
    by : (b : Bool) → nat_lt (position_or_len (is_back target) bs) (length bs) ≡ b → cond b (position_or_len (is_back target) bs + 1) 0 ≤ length bs
    by true is = let low : position_or_len (is_back target) bs < length bs = grind (arith, nat_tests, is) in omega (arith, low)
    by false is = omega arith

backs-seen : (calls : List Activation) → backs (map call_of calls) ≡ activations.backs calls
backs-seen [] = refl
backs-seen (a ∷ calls) = ap (λ (bs : List (Option ℕ)). a.back ∷ bs) (backs-seen calls)

count_kept : (old : Stacks) (past : List Event) (tid target n : ℕ) → n ≡ count_returned target (backs (calls_of old tid)) → StacksStandFor old past →
    n ≡ count_returned target (activations.backs (open_calls past tid))
count_kept old past tid target n count stands =
    count ∙ ap (λ calls. count_returned target (backs calls)) (stands.calls_are tid) ∙ ap (count_returned target) (backs-seen (open_calls past tid))

pub ended-return : (old : Stacks) (past : List Event) (tid target n : ℕ) → n ≡ count_returned target (backs (calls_of old tid)) → StacksStandFor old past →
    n ≡ count_ended (Ret tid target) past (thread_of (Ret tid target))
ended-return old past tid target n count stands =
    let calls = open_calls past tid in
    let k = count_returned target (activations.backs calls) in
    let within : k ≤ length calls = omega (arith, returned-le target (activations.backs calls), length-map calls (λ a. a.back)) in
    count_kept old past tid target n count stands ∙ sym (length-take-le k calls within) ∙ sym (ap (λ b. length (take (cond b k 0) calls)) (eq-eqb tid tid refl))

pub stands-return : (old new : Stacks) (past : List Event) (tid target n : ℕ) → is_some (value_of old.threads tid) ≡ true →
    n ≡ count_returned target (backs (calls_of old tid)) → new.threads ≡ with_value old.threads tid (drop n (calls_of old tid)) → new.pending ≡ old.pending - n →
    StacksStandFor old past → StacksStandFor new (Ret tid target ∷ past)
stands-return old new past tid target n lives count threads counted stands =
    let calls = drop n (calls_of old tid) in
    record {
      threads_live = still_live old new past tid calls lives threads stands;
      threads_began = still_began old new past tid calls lives threads stands;
      calls_are = changed old new past tid calls lives threads stands (λ t. calls_after (Ret tid target ∷ past) t)
          (ap (λ b. map call_of (drop (cond b (count_returned target (activations.backs (open_calls past tid))) 0) (open_calls past tid))) (eq-eqb tid tid refl)
          ∙ ap (λ m. map call_of (drop m (open_calls past tid))) (sym (count_kept old past tid target n count stands))
          ∙ sym (drop-map call_of n (open_calls past tid)) ∙ ap (drop n) (sym (stands.calls_are tid)))
          (λ t isnt. ap (λ b. map call_of (drop (cond b (count_returned target (activations.backs (open_calls past t))) 0) (open_calls past t))) isnt);
      pending_is = omega (arith, counted, stands.pending_is, ended-return old past tid target n count stands);
    }

-- the end of a thread
pub stands-end : (old new : Stacks) (past : List Event) (tid n : ℕ) → n ≡ length (calls_of old tid) → new.threads ≡ without_thread old.threads tid →
    new.pending ≡ old.pending - n → StacksStandFor old past → StacksStandFor new (End tid ∷ past)
stands-end old new past tid n count threads counted stands =
    let calls = open_calls past tid in
    let k = length (activations.backs calls) in
    let long : k ≡ length calls = length-map calls (λ a. a.back) in
    let all : n ≡ length calls = count ∙ ap length (stands.calls_are tid) ∙ length-map calls call_of in
    let taken : length (take (cond (tid == tid) k 0) calls) ≡ k = ap (λ b. length (take (cond b k 0) calls)) (eq-eqb tid tid refl) ∙ length-take-le k calls (omega (arith, long)) in
    record {
      threads_live = λ t. ap is_some (reads t) ∙ live t (tid == t) refl;
      threads_began = All-same (λ n. n ≤ greatest_start past) (numbers new.threads) (numbers (without_thread old.threads tid)) (ap numbers threads)
          (All-numbers-without (λ n. n ≤ greatest_start past) old.threads tid stands.threads_began);
      calls_are = λ t. ap calls_or_none (reads t) ∙ left t (tid == t) refl;
      pending_is = omega (arith, counted, stands.pending_is, all, long, taken);
    }
  where
    reads : (t : ℕ) → value_of new.threads t ≡ cond (tid == t) None (value_of old.threads t)
    reads t = ap (λ (xs : List (ℕ × List OpenCall)). value_of xs t) threads ∙ value_of-without old.threads tid t

    live : (t : ℕ) (b : Bool) → (tid == t) ≡ b → is_some (cond b None (value_of old.threads t)) ≡ (not (nat_eq t tid) && is_live past t)
    live t true is = sym (ap (λ b. not b && is_live past t) (turned tid t true is))
    live t false is = stands.threads_live t ∙ sym (ap (λ b. not b && is_live past t) (turned tid t false is))

    left : (t : ℕ) (b : Bool) → (tid == t) ≡ b →
        calls_or_none (cond b None (value_of old.threads t)) ≡ map call_of (drop (cond b (length (activations.backs (open_calls past t))) 0) (open_calls past t))
    left t true is =
        let long : length (activations.backs (open_calls past t)) ≡ length (open_calls past t) = length-map (open_calls past t) (λ a. a.back) in
        sym (ap (map call_of) (drop_all (length (activations.backs (open_calls past t))) (open_calls past t) (omega (arith, long))))
    left t false is = stands.calls_are t
