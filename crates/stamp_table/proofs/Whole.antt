-- The table agrees with the past after each event, and what it pops is what ends there.
use Rattle.std.proofs.Common.{inl, inr, ◌≡◌, ◌≢◌, ◌⊎◌, ℕ, zero, suc, ◌+◌, ◌-◌, ◌<◌, ◌≤◌, Bool, true, false, not, cond, eqb, ltb, leb, ◌&&◌, ◌||◌, List, [], ◌∷◌, ◌++◌, length, take, map, Option, Some, None, refl, sym, ap, subst, ◌∙◌, arith}
use Rattle.std.specs.Prelude.{◌==◌, All, is_some}
use Rattle.std.proofs.lemmas.Bool.{cond-true, cond-false, eq-eqb, ne_eqb, eqb-true, false≢true}
use Rattle.std.proofs.lemmas.Bool.Decides.{nat_tests}
use Rattle.std.proofs.lemmas.List.{length-map, map-append, take_all, take-map}
use Rattle.std.proofs.lemmas.List.Elements.{All-nil, All-cons, All-contains, All-push, All-same, All-weaker}
use Rattle.guest_words.specs.ByThread.{IsRising, numbers, value_of}
use Rattle.guest_words.proofs.ThreadTables.{All-numbers-without, rising_pushed, rising_without}
use Rattle.trace_model.specs.declared.event_kinds.Event.{Event}
use Rattle.trace_model.specs.declared.event_kinds.Event.TheVariants.{Step, Write, Fill, Ret, Start, End}
use Rattle.trace_model.specs.declared.activations.Activation.{Activation}
use Rattle.trace_model.specs.Events.{thread_of, covers}
use Rattle.trace_model.specs.Activations.{open_calls, backs, count_ending}
use Rattle.trace_model.specs.Sizes.{since, before, last_touch, cost}
use Rattle.trace_model.specs.Causes.{OtherThread, Kernel, part, caused}
use Rattle.trace_model.specs.Profile.{done_of, ended}
use Rattle.trace_model.specs.WellFormed.{is_live, last_step, greatest_start, weight_of, MayFollow, IsWellFormed}
use Rattle.trace_model.proofs.Causes.{foreign_parts_are_counts, parts-sum}
use Rattle.shadow_stack.specs.Frames.{Frame, starts_of}
use Rattle.stamp_table.specs.Frames.{popped}
use Rattle.stamp_table.specs.Table.{Thread, Table, with_frame, count_pops, event_after, no_thread, changed}
use Rattle.stamp_table.specs.Ticks.{is_switch, ticks}
use Rattle.stamp_table.specs.Records.{finished, record_of, records, records_of}
use Rattle.stamp_table.specs.Past.{is_by_others, is_written, is_filled, writes_word, counts_of, call_of, sums_of}
use Rattle.stamp_table.specs.Stands.{IsFalling, ThreadStands, HasStart, Agrees}
use Rattle.stamp_table.specs.Laws.{IsAbove, IsFresh, OpenAreAsDefined}
use Rattle.stamp_table.proofs.Frames.{popped-totals}
use Rattle.stamp_table.proofs.Events.{apart}
use Rattle.stamp_table.proofs.Inside.{inside_before, counts_idle}
use Rattle.stamp_table.proofs.Past.{of_thread, same_thread}
use Rattle.stamp_table.proofs.Threads.{numbers-changed}
use Rattle.stamp_table.proofs.Kept.{still_stands, backs-stand}
use Rattle.stamp_table.proofs.There.{IsThere, there, positive, positive_by, zip-length}
use Rattle.stamp_table.proofs.Own.{Change, change, at_most}

-- ---- what each event makes of the counter and the write stamps
pub counter_after : (e : Event) (table : Table) → (event_after e table).counter ≡ table.counter
counter_after (Step a) table = refl
counter_after e table = refl

write_after : (e : Event) (table : Table) (l : ℕ) → (event_after e table).write l ≡ cond (writes_word e l) table.counter (table.write l)
write_after (Step a) table l = refl
write_after e table l = refl

-- a stamp that is below the counter is below the stamps that words get
over : (c : Bool) (stamp now write : ℕ) (before : Bool) → (c ≡ true → stamp < now) → ltb stamp write ≡ before → ltb stamp (cond c now write) ≡ (c || before)
over c stamp now write before low h = grind (arith, nat_tests)

-- ---- a thread that the event is not of
moved_on : (e : Event) (table : Table) (past : List Event) (t l stamp : ℕ) → thread_of e ≢ Some t → MayFollow e past → table.last ≡ last_step past →
    (ticks e table.last ≡ true → stamp < table.counter) → (table.last ≢ Some t → stamp < table.counter) → writes_word e l ≡ true → stamp < table.counter
moved_on (Write a first count) table past t l stamp other may last fresh away writes = away (λ is. other (sym may.0.1 ∙ (sym last ∙ is)))
moved_on (Fill first count) table past t l stamp other may last fresh away writes = fresh refl
moved_on e table past t l stamp other may last fresh away writes = absurd (false≢true writes)

away_step : (last : Option ℕ) (a t stamp counter : ℕ) → (is_switch last a ≡ true → stamp < counter) → (last ≢ Some t → stamp < counter) → Some a ≢ Some t →
    stamp < counter
away_step None a t stamp counter fresh away other = away (λ is. cc)
away_step (Some b) a t stamp counter fresh away other = by (eqb b a) refl
  where
    by : (same : Bool) → eqb b a ≡ same → stamp < counter
    by true is = away (λ k. other (ap (λ n. Some n) (sym (eqb-true b a is)) ∙ k))
    by false is = fresh (ap not is)

-- the counter has moved on where the running thread changes
away_after : (e : Event) (table : Table) (t stamp : ℕ) → (ticks e table.last ≡ true → stamp < table.counter) → (table.last ≢ Some t → stamp < table.counter) →
    (event_after e table).last ≢ Some t → stamp < table.counter
away_after (Step a) table t stamp fresh away other = away_step table.last a t stamp table.counter fresh away other
away_after e table t stamp fresh away other = away other

stands_by : (e : Event) (table : Table) (past : List Event) (t : ℕ) (thread : Thread) → thread_of e ≢ Some t → MayFollow e past → table.last ≡ last_step past →
    (ticks e table.last ≡ true → IsAbove table.counter thread) → ThreadStands table past t thread → ThreadStands (event_after e table) (e ∷ past) t thread
stands_by e table past t thread other may last fresh s =
    let a = apart e t other in
    still_stands e table (event_after e table) past t thread [] thread.access thread.counts (record { begins = a.begins; ends = a.ends })
    (record {
      counter = counter_after e table;
      read = a.reads;
      counted = s.counts ∙ sym (counts_idle e past t a.reads a.steps);
      reach = λ r l low. sym (ap (λ b. b || leb r (thread.access l)) (a.own l));
      reached = s.reached;
      overwritten = λ l. ap (ltb (thread.access l)) (write_after e table l)
          ∙ over (writes_word e l) (thread.access l) table.counter (table.write l) (is_by_others (last_touch past t l))
          (moved_on e table past t l (thread.access l) other may last (λ k. (fresh k).access l) (λ k. s.away k l)) (s.overwritten l)
          ∙ sym (a.writes l (last_touch past t l));
      bounded = s.bounded;
      away = λ k l. away_after e table t (thread.access l) (λ k. (fresh k).access l) (λ k. s.away k l) k;
    })
    s

-- ---- each thread
pub record IsOwn (e : Event) (table : Table) (past : List Event) (q : ℕ) : Type 0 where
  pub own : thread_of e ≡ Some q
  pub change : Change e table past q
  pub value : value_of (event_after e table).threads q ≡ change.new

pub record IsOther (e : Event) (table : Table) (q : ℕ) : Type 0 where
  pub other : thread_of e ≢ Some q
  pub value : value_of (event_after e table).threads q ≡ value_of table.threads q

pub of_none : (e : Event) (table : Table) → thread_of e ≡ None → (event_after e table).threads ≡ table.threads
of_none e table none = grind (arith, none)

module _ (e : Event) (table : Table) (past : List Event) (formed : IsWellFormed (e ∷ past)) (fresh : ticks e table.last ≡ true → IsFresh table)
    (s : Agrees table past) where
  pub at_thread : (q : ℕ) → IsOwn e table past q ⊎ IsOther e table q
  at_thread q =
      elim (of_thread (thread_of e) q) [
        | inl own ↦
            let c = change e q table past own formed fresh s in
            inl (record { own = own; change = c; value = c.value q ∙ cond-true (q == q) c.new (value_of table.threads q) (eq-eqb q q refl) })
        | inr other ↦ inr (record { other = other; value = by (thread_of e) refl other })
      ]
    where
      by : (o : Option ℕ) → thread_of e ≡ o → thread_of e ≢ Some q → value_of (event_after e table).threads q ≡ value_of table.threads q
      by None is other = ap (λ xs. value_of xs q) (of_none e table is)
      by (Some t) is other =
          let c = change e t table past is formed fresh s in
          c.value q ∙ cond-false (t == q) c.new (value_of table.threads q) (ne_eqb t q (λ same. other (is ∙ ap (λ n. Some n) same)))

  threads_after : (q : ℕ) (thread : Thread) → value_of (event_after e table).threads q ≡ Some thread → ThreadStands (event_after e table) (e ∷ past) q thread
  threads_after q thread found =
      elim (at_thread q) [
        | inl o ↦ o.change.stands thread (sym o.value ∙ found)
        | inr o ↦
            let before = sym o.value ∙ found in
            stands_by e table past q thread o.other formed.0 s.last (λ k. (fresh k).above q thread before) (s.threads q thread before)
      ]

  live_after : (q : ℕ) → is_some (value_of (event_after e table).threads q) ≡ is_live (e ∷ past) q
  live_after q =
      elim (at_thread q) [
        | inl o ↦ ap is_some o.value ∙ o.change.live
        | inr o ↦ ap is_some o.value ∙ s.live q ∙ sym ((apart e q o.other).lives past)
      ]

  -- a start of a thread is an old one of it, or that of a tick just made for it
  old_or_now : (q k : ℕ) → HasStart (value_of (event_after e table).threads q) k →
      HasStart (value_of table.threads q) k ⊎ ((k ≡ table.counter) × (ticks e table.last ≡ true) × (thread_of e ≡ Some q))
  old_or_now q k has =
      elim (at_thread q) [
        | inl o ↦ elim (o.change.starts k (subst (λ v. HasStart v k) o.value has)) [ inl old ↦ inl old | inr now ↦ inr (now.0, now.1, o.own) ]
        | inr o ↦ inl (subst (λ v. HasStart v k) o.value has)
      ]

  below_now : (q k : ℕ) → ticks e table.last ≡ true → HasStart (value_of table.threads q) k → k < table.counter
  below_now q k tick has = by (value_of table.threads q) refl has
    where
      all_below : (limit : ℕ) (starts : List ℕ) → IsFalling limit starts → All (λ k. k < limit) starts
      all_below limit [] falling = All-nil (λ k. k < limit)
      all_below limit (x ∷ starts) falling =
          All-cons (λ k. k < limit) x starts falling.1 (All-weaker (λ k. k < x) (λ k. k < limit) (λ k h. omega (arith, h, falling.1)) starts (all_below x starts falling.2))

      by : (o : Option Thread) → value_of table.threads q ≡ o → HasStart o k → k < table.counter
      by None found has = absurd has
      by (Some thread) found has =
          All-contains (λ k. k < table.counter) _ k (all_below table.counter _ ((fresh tick).above q thread found).starts) has

  distinct_after : (k q u : ℕ) → HasStart (value_of (event_after e table).threads q) k → HasStart (value_of (event_after e table).threads u) k → q ≡ u
  distinct_after k q u here there =
      elim (old_or_now q k here) [
        | inl h ↦ elim (old_or_now u k there) [
          | inl g ↦ s.distinct k q u h g
          | inr g ↦ absurd (omega (arith, g.0, below_now q k g.1 h))
        ]
        | inr h ↦ elim (old_or_now u k there) [
          | inl g ↦ absurd (omega (arith, h.0, below_now u k h.1 g))
          | inr g ↦ same_thread q u (sym h.2 ∙ g.2)
        ]
      ]

  positive_where : (l : ℕ) → writes_word e l ≡ true → 0 < table.counter
  positive_where l writes = by e formed.0 fresh writes
    where
      by : (e : Event) → MayFollow e past → (ticks e table.last ≡ true → IsFresh table) → writes_word e l ≡ true → 0 < table.counter
      by (Write a first count) may fresh writes = positive table past a formed.2 s may.0.0
      by (Fill first count) may fresh writes = positive_by (fresh refl)
      by e may fresh writes = absurd (false≢true writes)

-- ---- words
marked_by_write : (c : Bool) (mark : ℕ) (filled : Bool) → mark ≡ cond filled 1 0 → cond c 0 mark ≡ cond (not c && filled) 1 0
marked_by_write c mark filled h = grind (arith, h)

marked_by_fill : (c : Bool) (mark : ℕ) (filled : Bool) → mark ≡ cond filled 1 0 → cond c 1 mark ≡ cond (c || filled) 1 0
marked_by_fill c mark filled h = grind (arith, h)

marks_after : (e : Event) (table : Table) (past : List Event) → ((l : ℕ) → table.marks l ≡ cond (is_filled past l) 1 0) →
    (l : ℕ) → (event_after e table).marks l ≡ cond (is_filled (e ∷ past) l) 1 0
marks_after (Write a first count) table past marks l = marked_by_write (covers first count l) (table.marks l) (is_filled past l) (marks l)
marks_after (Fill first count) table past marks l = marked_by_fill (covers first count l) (table.marks l) (is_filled past l) (marks l)
marks_after e table past marks l = marks l

-- ---- the numbers of the threads
abbrev IsStarted : List Event → ℕ → Type 0
IsStarted past n = n ≤ greatest_start past

-- they rise, and all satisfy a condition
abbrev AreKept : (ℕ → Type 0) → List (ℕ × Thread) → Type 0
AreKept P xs = IsRising (numbers xs) × All P (numbers xs)

kept : (P : ℕ → Type 0) (xs : List (ℕ × Thread)) (t : ℕ) (change : Thread → Thread) → AreKept P xs → AreKept P (changed t change xs)
kept P xs t change h = let same = sym (numbers-changed xs t change) in (subst IsRising same h.0, subst (All P) same h.1)

numbers_after : (e : Event) (table : Table) (past : List Event) → MayFollow e past → Agrees table past → AreKept (IsStarted (e ∷ past)) (event_after e table).threads
numbers_after (Start t entry) table past may s =
    let new = with_frame table.counter entry None no_thread in
    let after = IsStarted (Start t entry ∷ past) in (
      rising_pushed table.threads t new s.rising (All-weaker (IsStarted past) (λ n. n < t) (λ n h. omega (arith, h, may)) (numbers table.threads) s.started),
      All-same after _ (numbers table.threads ++ t ∷ []) (map-append (λ (x : ℕ × Thread). x.0) table.threads ((t, new) ∷ []))
          (All-push after (numbers table.threads) t (All-weaker (IsStarted past) after (λ n h. omega (arith, h)) (numbers table.threads) s.started) (omega arith)),
    )
numbers_after (End t) table past may s = (rising_without table.threads t s.rising, All-numbers-without (IsStarted past) table.threads t s.started)
numbers_after (Fill first count) table past may s = (s.rising, s.started)
numbers_after _ table past may s = kept (IsStarted past) table.threads _ _ (s.rising, s.started)

last_after : (e : Event) (table : Table) (past : List Event) → table.last ≡ last_step past → (event_after e table).last ≡ last_step (e ∷ past)
last_after (Step t) table past is = refl
last_after e table past is = is

greatest_after : (e : Event) (table : Table) (past : List Event) → MayFollow e past → table.greatest ≡ greatest_start past →
    (event_after e table).greatest ≡ greatest_start (e ∷ past)
greatest_after (Start t entry) table past may is = omega (arith, may)
greatest_after e table past may is = is

-- ---- the whole table
pub event_agrees : (e : Event) (table : Table) (past : List Event) → IsWellFormed (e ∷ past) → (ticks e table.last ≡ true → IsFresh table) → Agrees table past →
    Agrees (event_after e table) (e ∷ past)
event_agrees e table past formed fresh s = record {
  threads = threads_after e table past formed fresh s;
  written = λ l. ap (ltb 0) (write_after e table l)
      ∙ over (writes_word e l) 0 table.counter (table.write l) (is_written past l) (positive_where e table past formed fresh s l) (s.written l);
  marks = marks_after e table past s.marks;
  writes = λ l. subst (λ n. (event_after e table).write l ≤ n) (sym (counter_after e table))
      (subst (λ n. n ≤ table.counter) (sym (write_after e table l)) (at_most (writes_word e l) table.counter (table.write l) (s.writes l)));
  distinct = distinct_after e table past formed fresh s;
  formed = formed;
  live = live_after e table past formed fresh s;
  rising = (numbers_after e table past formed.0 s).0;
  started = (numbers_after e table past formed.0 s).1;
  last = last_after e table past s.last;
  greatest = greatest_after e table past formed.0 s.greatest;
  weight = ap (λ n. n + weight_of e) s.weight;
}

-- ---- what ends
cost-append : (inside past : List Event) (t : ℕ) → cost (inside ++ past) t ≡ cost inside t + cost past t
cost-append [] past t = omega arith
cost-append (e ∷ inside) past t = omega (arith, cost-append inside past t)

-- what an activation is recorded as, by the counts at its begin and its sums
record_is : (past : List Event) (t : ℕ) (a : Activation) → record_of t (counts_of past t) (sums_of past t a) (call_of past t a) ≡ done_of past t a
record_is past t a =
    let inside = since past a.at in
    let outside = before past (a.at + 1) in
    let whole = inside_before past a.at in
    let ran : cost past t - cost outside t ≡ cost inside t = omega (arith, cost-append inside outside t, ap (λ es. cost es t) whole) in
    let thread : caused OtherThread past t - caused OtherThread outside t ≡ part OtherThread inside outside t =
    omega (arith, foreign_parts_are_counts.thread inside outside t, ap (λ es. caused OtherThread es t) whole) in
    let kernel : caused Kernel past t - caused Kernel outside t ≡ part Kernel inside outside t =
    omega (arith, foreign_parts_are_counts.kernel inside outside t, ap (λ es. caused Kernel es t) whole) in
    let done = done_of past t a in
    λ i. record {
      tid = t;
      entry = a.entry;
      size = ((λ i. done.plain + thread i + kernel i) ∙ parts-sum inside outside t) i;
      cost = ran i;
      plain = done.plain;
      thread = thread i;
      kernel = kernel i;
      bare = done.bare;
    }

records_are : (past : List Event) (t n : ℕ) (calls : List Activation) →
    records t (counts_of past t) (map (sums_of past t) (take n calls)) (map (call_of past t) calls) ≡ map (done_of past t) (take n calls)
records_are past t zero calls = refl
records_are past t (suc n) [] = refl
records_are past t (suc n) (a ∷ calls) = λ i. record_is past t a i ∷ records_are past t n calls i

-- what is recorded of a thread's innermost activations, where so many are popped
popped_are : (table : Table) (past : List Event) (t n : ℕ) (thread : Thread) → ThreadStands table past t thread →
    records t thread.counts (popped n thread.frames) thread.calls ≡ map (done_of past t) (take n (open_calls past t))
popped_are table past t n thread s =
    let calls = open_calls past t in
    let sums = popped-totals n thread.frames ∙ ap (take n) s.sums ∙ take-map (sums_of past t) n calls in
    (λ i. records t (s.counts i) (sums i) (s.calls i)) ∙ records_are past t n calls

ending_are : (e : Event) (table : Table) (past : List Event) (t : ℕ) (i : IsThere table past t) →
    records_of e t (value_of table.threads t) ≡ map (done_of past t) (take (count_ending e t (backs (open_calls past t))) (open_calls past t))
ending_are e table past t i =
    ap (records_of e t) i.found
    ∙ popped_are table past t (count_pops e t i.thread) i.thread i.stands
    ∙ ap (λ bs. map (done_of past t) (take (count_ending e t bs) (open_calls past t))) (backs-stand past t i.thread.calls i.stands.calls)

pub event_finishes : (e : Event) (table : Table) (past : List Event) → MayFollow e past → Agrees table past → finished e table ≡ ended e past
event_finishes (Ret t target) table past may s = ending_are (Ret t target) table past t (there table past t s may.0)
event_finishes (End t) table past may s = ending_are (End t) table past t (there table past t s may)
event_finishes e table past may s = refl

-- all of a thread
pub open_are_as_defined : OpenAreAsDefined
open_are_as_defined table past t thread s found =
    let h = s.threads t thread found in
    let n = length thread.frames in
    let deep = zip-length _ (starts_of thread.frames) (open_calls past t) h.starts in
    popped_are table past t n thread h
    ∙ ap (map (done_of past t)) (take_all n (open_calls past t) (omega (arith, deep, length-map thread.frames (λ (f : Frame). f.start))))
