-- What each event makes of the table's part for its own thread.
use Rattle.std.proofs.Common.{inl, inr, ◌≡◌, ◌⊎◌, ℕ, ◌+◌, ◌<◌, ◌≤◌, Bool, true, false, not, cond, eqb, ltb, leb, ◌&&◌, ◌||◌, List, [], ◌∷◌, length, take, drop, map, Option, Some, None, refl, sym, ap, subst, ◌∙◌, arith}
use Rattle.std.specs.Prelude.{◌==◌, Contains, IfSome, is_some}
use Rattle.std.specs.List.{AllZip, count_by, range_with_len}
use Rattle.std.proofs.lemmas.Bool.{cond-true, eq-eqb}
use Rattle.std.proofs.lemmas.Bool.Decides.{nat_tests}
use Rattle.std.proofs.lemmas.List.{take-append-drop}
use Rattle.std.proofs.lemmas.List.Elements.{All-weaker, Contains-append_right}
use Rattle.std.proofs.lemmas.List.Sums.{sum_by-cons}
use Rattle.guest_words.specs.ByThread.{numbers, value_of}
use Rattle.guest_words.proofs.ThreadTables.{value_of-above, value_of-pushed, value_of-without}
use Rattle.trace_model.specs.declared.event_kinds.Event.{Event}
use Rattle.trace_model.specs.declared.event_kinds.Event.TheVariants.{Step, Read, Write, Fill, Call, Ret, Start, End}
use Rattle.trace_model.specs.declared.event_kinds.Touch.{Touch}
use Rattle.trace_model.specs.declared.event_kinds.Touch.TheVariants.{Untouched, ByItself, ByOther}
use Rattle.trace_model.specs.declared.activations.Activation.{Activation}
use Rattle.trace_model.specs.Events.{thread_of, touch, covers, words_read}
use Rattle.trace_model.specs.Activations.{count_returned, open_calls, backs}
use Rattle.trace_model.specs.Sizes.{newer, is_own, last_touch}
use Rattle.trace_model.specs.Causes.{OtherThread, Kernel, is_by}
use Rattle.trace_model.specs.WellFormed.{is_live, greatest_start, IsWellFormed}
use Rattle.trace_model.proofs.Pairs.{contains_first}
use Rattle.stamp_lanes.specs.Plain.{is_by_thread, is_by_kernel}
use Rattle.shadow_stack.specs.Frames.{starts_of}
use Rattle.call_tracker.specs.ThreadCalls.{Counts}
use Rattle.stamp_table.specs.Table.{Thread, Table, with_frame, changed, count_pops, event_after, no_thread, places_read, stamped, thread_after_read, thread_after_ret}
use Rattle.stamp_table.specs.Ticks.{ticks}
use Rattle.stamp_table.specs.Past.{is_by_others, is_filled, counts_of}
use Rattle.stamp_table.specs.Stands.{IsStartOf, outermost, ThreadStands, HasStart, Agrees}
use Rattle.stamp_table.specs.Laws.{IsAbove, IsFresh}
use Rattle.stamp_table.proofs.Frames.{starts-reads, starts-pops}
use Rattle.stamp_table.proofs.Inside.{counts_idle, same_counts, kernel_is, other_is}
use Rattle.stamp_table.proofs.Past.{IsUnstarted, unstarted, rooted, returned-lt}
use Rattle.stamp_table.proofs.Threads.{value_of-changed, frame_count, frames_of, count-changed, count-pushed, count-without}
use Rattle.stamp_table.proofs.There.{IsThere, there, depth_is, has_frame, positive_by}
use Rattle.stamp_table.proofs.Kept.{IsStill, still_stands, still_thread, begun_stands, backs-stand, popped_stands, outermost-le}

-- ---- what an event makes of its thread
pub record Change (e : Event) (table : Table) (past : List Event) (t : ℕ) : Type 0 where
  pub new : Option Thread
  pub value : (q : ℕ) → value_of (event_after e table).threads q ≡ cond (t == q) new (value_of table.threads q)
  pub stands : (thread : Thread) → new ≡ Some thread → ThreadStands (event_after e table) (e ∷ past) t thread
  pub live : is_some new ≡ is_live (e ∷ past) t
  -- a start is one of those before, or that of a tick just made
  pub starts : (s : ℕ) → HasStart new s → HasStart (value_of table.threads t) s ⊎ ((s ≡ table.counter) × (ticks e table.last ≡ true))
  pub frames : frame_count (event_after e table).threads + frames_of (value_of table.threads t) ≡ frame_count table.threads + frames_of new

pub the_same : (a b : Thread) → Some a ≡ Some b → a ≡ b
the_same a b e = cc

-- the thread is changed, and its starts are those before, or the counter is one more
changed_by : (e : Event) (table : Table) (past : List Event) (t : ℕ) (change : Thread → Thread) (i : IsThere table past t) →
    (event_after e table).threads ≡ changed t change table.threads → is_live (e ∷ past) t ≡ true →
    ThreadStands (event_after e table) (e ∷ past) t (change i.thread) →
    ((s : ℕ) → Contains (starts_of (change i.thread).frames) s → Contains (starts_of i.thread.frames) s ⊎ ((s ≡ table.counter) × (ticks e table.last ≡ true))) →
    Change e table past t
changed_by e table past t change i threads live stands starts = record {
  new = Some (change i.thread);
  value = λ q. ap (λ xs. value_of xs q) threads ∙ value_of-changed table.threads t change i.thread i.found q;
  stands = λ thread same. subst (ThreadStands (event_after e table) (e ∷ past) t) (the_same (change i.thread) thread same) stands;
  live = sym live;
  starts = λ s has. subst (λ o. HasStart o s ⊎ ((s ≡ table.counter) × (ticks e table.last ≡ true))) (sym i.found) (starts s has);
  frames = ap (λ xs. frame_count xs + frames_of (value_of table.threads t)) threads
      ∙ ap (λ o. frame_count (changed t change table.threads) + frames_of o) i.found
      ∙ count-changed table.threads t change i.thread i.found;
}

-- its starts stay
same_starts : (e : Event) (table : Table) (olds news : List ℕ) → news ≡ olds → (s : ℕ) → Contains news s →
    Contains olds s ⊎ ((s ≡ table.counter) × (ticks e table.last ≡ true))
same_starts e table olds news same s c = inl (subst (λ ss. Contains ss s) same c)

-- ---- a step
step_stands : (table : Table) (past : List Event) (t : ℕ) (thread : Thread) → ThreadStands table past t thread →
    ThreadStands (event_after (Step t) table) (Step t ∷ past) t (record thread { counts = record thread.counts { steps = thread.counts.steps + 1 } })
step_stands table past t thread s =
    still_stands (Step t) table (event_after (Step t) table) past t thread [] thread.access (record thread.counts { steps = thread.counts.steps + 1 })
    (record { begins = λ at. refl; ends = λ bs. refl })
    (record {
      counter = refl;
      read = refl;
      counted = same_counts _ _ (omega (arith, ap (λ (c : Counts). c.steps) s.counts, cond-true {A = ℕ} (eqb t t) 1 0 (eq-eqb t t refl)))
          (omega (arith, ap (λ (c : Counts). c.thread) s.counts)) (omega (arith, ap (λ (c : Counts). c.kernel) s.counts));
      reach = λ r l low. refl;
      reached = s.reached;
      overwritten = s.overwritten;
      bounded = s.bounded;
      away = λ other. absurd (other refl);
    })
    s

-- ---- accesses
reach_by : (c : Bool) (s now ts : ℕ) → s < now + 1 → leb s (cond c now ts) ≡ (is_own (cond c ByItself Untouched) || leb s ts)
reach_by c s now ts h = grind (arith, nat_tests)

reached_by : (c : Bool) (now ts low : ℕ) → low ≤ now → (0 < ts → low ≤ ts) → 0 < cond c now ts → low ≤ cond c now ts
reached_by c now ts low h k p = grind (arith, nat_tests)

over_read : (c : Bool) (now ts ws : ℕ) (before : Touch) → ws ≤ now → ltb ts ws ≡ is_by_others before →
    ltb (cond c now ts) ws ≡ is_by_others (newer (cond c ByItself Untouched) before)
over_read c now ts ws before w h = grind (arith, nat_tests)

over_write : (c : Bool) (now ts ws : ℕ) (before : Touch) → ltb ts ws ≡ is_by_others before →
    ltb (cond c now ts) (cond c now ws) ≡ is_by_others (newer (cond c ByItself Untouched) before)
over_write c now ts ws before h = grind (arith, nat_tests)

pub at_most : (c : Bool) (now ts : ℕ) → ts ≤ now → cond c now ts ≤ now
at_most true now ts h = omega arith
at_most false now ts h = h

-- an access of words by the thread: they get the counter as its access stamps
access_stands : (e : Event) (table : Table) (past : List Event) (t first count : ℕ) (thread : Thread) (words : List ℕ) (counts : Counts) →
    IsStill e t → words_read e t ≡ words → counts ≡ counts_of (e ∷ past) t → (event_after e table).counter ≡ table.counter →
    (event_after e table).last ≡ Some t → ((l : ℕ) → touch e t l ≡ cond (covers first count l) ByItself Untouched) →
    ((l : ℕ) → ltb (stamped table.counter first count thread.access l) ((event_after e table).write l)
    ≡ is_by_others (newer (cond (covers first count l) ByItself Untouched) (last_touch past t l))) → ThreadStands table past t thread →
    ThreadStands (event_after e table) (e ∷ past) t (still_thread table words (stamped table.counter first count thread.access) counts thread)
access_stands e table past t first count thread words counts still read counted counter last touches over s =
    still_stands e table (event_after e table) past t thread words (stamped table.counter first count thread.access) counts still
    (record {
      counter = counter;
      read = read;
      counted = counted;
      reach = λ r l low. reach_by (covers first count l) r table.counter (thread.access l) low ∙ ap (λ w. is_own w || leb r (thread.access l)) (sym (touches l));
      reached = λ l p. reached_by (covers first count l) table.counter (thread.access l) (outermost (starts_of thread.frames))
          (outermost-le table.counter (starts_of thread.frames) s.falling) (s.reached l) p;
      overwritten = λ l. over l ∙ ap (λ w. is_by_others (newer w (last_touch past t l))) (sym (touches l));
      bounded = λ l. at_most (covers first count l) table.counter (thread.access l) (s.bounded l);
      away = λ other. absurd (other last);
    })
    s

-- the words that the stamps and the mark count are those that the past counts
by_kernel : (own write mark : ℕ) (filled : Bool) (w : Touch) → ltb own write ≡ is_by_others w → mark ≡ cond filled 1 0 →
    is_by Kernel w ≡ (is_by_others w && filled) → is_by_kernel (record { own = own; write = write; mark = mark }) ≡ is_by Kernel w
by_kernel own write mark filled w over marked kernel = grind (arith, nat_tests)

by_thread : (own write mark : ℕ) (filled : Bool) (w : Touch) → ltb own write ≡ is_by_others w → mark ≡ cond filled 1 0 →
    is_by OtherThread w ≡ (is_by_others w && not filled) → is_by_thread (record { own = own; write = write; mark = mark }) ≡ is_by OtherThread w
by_thread own write mark filled w over marked other = grind (arith, nat_tests)

count_by-map : {A : Type 0} (test : A → Bool) (f : ℕ → A) (words : List ℕ) → count_by test (map f words) ≡ count_by (λ l. test (f l)) words
count_by-map test f [] = refl
count_by-map test f (l ∷ words) =
    sum_by-cons (λ p. cond (test p) 1 0) (f l) (map f words)
    ∙ ap (λ n. cond (test (f l)) 1 0 + n) (count_by-map test f words)
    ∙ sym (sum_by-cons (λ l. cond (test (f l)) 1 0) l words)

read_counts : (table : Table) (past : List Event) (t first count : ℕ) (thread : Thread) → ((l : ℕ) → table.marks l ≡ cond (is_filled past l) 1 0) →
    ThreadStands table past t thread → (thread_after_read first count table thread).counts ≡ counts_of (Read t first count ∷ past) t
read_counts table past t first count thread marks s =
    let words = range_with_len first count in
    let read : words ≡ words_read (Read t first count) t = sym (cond-true (eqb t t) words [] (eq-eqb t t refl)) in
    let other : count_by is_by_thread (places_read table thread words) ≡ count_by (λ l. is_by OtherThread (last_touch past t l)) (words_read (Read t first count) t) =
    count_by-map is_by_thread _ words
    ∙ (λ i. count_by (λ l. by_thread (thread.access l) (table.write l) (table.marks l) (is_filled past l) (last_touch past t l) (s.overwritten l) (marks l) (other_is past t l) i) (read i)) in
    let kernel : count_by is_by_kernel (places_read table thread words) ≡ count_by (λ l. is_by Kernel (last_touch past t l)) (words_read (Read t first count) t) =
    count_by-map is_by_kernel _ words
    ∙ (λ i. count_by (λ l. by_kernel (thread.access l) (table.write l) (table.marks l) (is_filled past l) (last_touch past t l) (s.overwritten l) (marks l) (kernel_is past t l) i) (read i)) in
    same_counts _ _ (omega (arith, ap (λ (c : Counts). c.steps) s.counts)) (omega (arith, other, ap (λ (c : Counts). c.thread) s.counts))
    (omega (arith, kernel, ap (λ (c : Counts). c.kernel) s.counts))

read_stands : (table : Table) (past : List Event) (t first count : ℕ) (thread : Thread) → table.last ≡ Some t → Agrees table past → ThreadStands table past t thread →
    ThreadStands (event_after (Read t first count) table) (Read t first count ∷ past) t (thread_after_read first count table thread)
read_stands table past t first count thread last s h =
    let words = range_with_len first count in
    access_stands (Read t first count) table past t first count thread words (thread_after_read first count table thread).counts
    (record { begins = λ at. refl; ends = λ bs. refl }) (cond-true (eqb t t) words [] (eq-eqb t t refl))
    (read_counts table past t first count thread s.marks h) refl last
    (λ l. ap (λ b. cond (b && covers first count l) ByItself Untouched) (eq-eqb t t refl))
    (λ l. over_read (covers first count l) table.counter (thread.access l) (table.write l) (last_touch past t l) (s.writes l) (h.overwritten l)) h

write_stands : (table : Table) (past : List Event) (t first count : ℕ) (thread : Thread) → table.last ≡ Some t → ThreadStands table past t thread →
    ThreadStands (event_after (Write t first count) table) (Write t first count ∷ past) t (record thread { access = stamped table.counter first count thread.access })
write_stands table past t first count thread last h =
    access_stands (Write t first count) table past t first count thread [] thread.counts
    (record { begins = λ at. refl; ends = λ bs. refl }) refl
    (h.counts ∙ sym (counts_idle (Write t first count) past t refl refl)) refl last
    (λ l. ap (λ b. cond (covers first count l) (cond b ByItself ByOther) Untouched) (eq-eqb t t refl))
    (λ l. over_write (covers first count l) table.counter (thread.access l) (table.write l) (last_touch past t l) (h.overwritten l)) h

-- ---- activations that begin
first_or_rest : (x : ℕ) (xs : List ℕ) (s : ℕ) → Contains (x ∷ xs) s → Contains xs s ⊎ (s ≡ x)
first_or_rest x xs s c = elim (contains_first x xs s c) [ inl here ↦ inr (sym here) | inr rest ↦ inl rest ]

new_starts : (e : Event) (table : Table) (thread : Thread) (entry : ℕ) (back : Option ℕ) → ticks e table.last ≡ true → (s : ℕ) →
    Contains (starts_of (with_frame table.counter entry back thread).frames) s → Contains (starts_of thread.frames) s ⊎ ((s ≡ table.counter) × (ticks e table.last ≡ true))
new_starts e table thread entry back tick s c =
    elim (first_or_rest table.counter (starts_of thread.frames) s c) [ inl old ↦ inl old | inr now ↦ inr (now, tick) ]

call_stands : (table : Table) (past : List Event) (t entry back : ℕ) (thread : Thread) → IsFresh table → IsAbove table.counter thread →
    0 < length (starts_of thread.frames) → ThreadStands table past t thread →
    ThreadStands (event_after (Call t entry back) table) (Call t entry back ∷ past) t (with_frame table.counter entry (Some back) thread)
call_stands table past t entry back thread fresh above some s =
    let a : Activation = record { at = length past; entry = entry; back = Some back } in
    begun_stands (Call t entry back) table (event_after (Call t entry back) table) past t thread a
    (record { begun = cond-true (eqb t t) (a ∷ []) [] (eq-eqb t t refl); ends = λ bs. refl; here = refl; reads = refl; steps = refl; touches = λ l. refl })
    refl (λ l. refl) refl (positive_by fresh) above.access above.starts (λ l p. some) s

-- a thread that is yet to start has no frame, no stamp and no count
unstarted_stands : (table : Table) (past : List Event) (t : ℕ) → IsFresh table → IsUnstarted past t → Agrees table past → ThreadStands table past t no_thread
unstarted_stands table past t fresh h s = record {
  calls = sym (ap (map _) h.calls);
  counts = sym h.counts;
  starts = subst (λ calls. AllZip (IsStartOf past t (λ l. 0)) [] calls) (sym h.calls) tt;
  reached = λ l p. absurd (omega (arith, p));
  overwritten = λ l. s.written l ∙ sym (h.touched l);
  bounded = λ l. omega arith;
  away = λ other l. (positive_by fresh);
  falling = tt;
  sums = sym (ap (map _) h.calls);
}

start_stands : (table : Table) (past : List Event) (t entry : ℕ) → IsFresh table → IsUnstarted past t → Agrees table past →
    ThreadStands (event_after (Start t entry) table) (Start t entry ∷ past) t (with_frame table.counter entry None no_thread)
start_stands table past t entry fresh h s =
    let a : Activation = record { at = length past; entry = entry; back = None } in
    begun_stands (Start t entry) table (event_after (Start t entry) table) past t no_thread a
    (record { begun = cond-true (eqb t t) (a ∷ []) [] (eq-eqb t t refl); ends = λ bs. refl; here = refl; reads = refl; steps = refl; touches = λ l. refl })
    refl (λ l. refl) refl (positive_by fresh) (λ l. (positive_by fresh)) tt (λ l p. absurd (omega (arith, p))) (unstarted_stands table past t fresh h s)

-- ---- activations that end
few_pops : (table : Table) (past : List Event) (t target : ℕ) (thread : Thread) → IsWellFormed past → is_live past t ≡ true → ThreadStands table past t thread →
    count_pops (Ret t target) t thread < length (starts_of thread.frames)
few_pops table past t target thread formed live s =
    let bs = backs (open_calls past t) in
    let own : count_pops (Ret t target) t thread ≡ count_returned target bs =
    cond-true (eqb t t) (count_returned target _) 0 (eq-eqb t t refl) ∙ ap (count_returned target) (backs-stand past t thread.calls s.calls) in
    omega (arith, own, returned-lt target bs (rooted past t formed live), depth_is table past t thread s)

drop_contains : (n : ℕ) (xs : List ℕ) (s : ℕ) → Contains (drop n xs) s → Contains xs s
drop_contains n xs s c =
    subst (λ ys. Contains ys s) (take-append-drop n xs)
    (Contains-append_right (take n xs) (drop n xs) s c)

ret_starts : (table : Table) (t target : ℕ) (thread : Thread) (s : ℕ) → Contains (starts_of (thread_after_ret t target thread).frames) s →
    Contains (starts_of thread.frames) s ⊎ ((s ≡ table.counter) × (ticks (Ret t target) table.last ≡ true))
ret_starts table t target thread s c =
    let n = count_pops (Ret t target) t thread in
    inl (drop_contains n (starts_of thread.frames) s (subst (λ ss. Contains ss s) (starts-pops n thread.frames) c))

-- ---- each event
changes : (e : Event) (table : Table) (past : List Event) → IsWellFormed (e ∷ past) → (ticks e table.last ≡ true → IsFresh table) → Agrees table past →
    IfSome (thread_of e) (Change e table past)
changes (Step a) table past formed fresh s =
    let i = there table past a s formed.0 in
    changed_by (Step a) table past a _ i refl formed.0 (step_stands table past a i.thread i.stands) (same_starts (Step a) table _ _ refl)
changes (Read a first count) table past formed fresh s =
    let running = formed.0.0 in
    let i = there table past a s running.0 in
    changed_by (Read a first count) table past a _ i refl running.0 (read_stands table past a first count i.thread (s.last ∙ running.1) s i.stands)
    (same_starts (Read a first count) table _ _ (starts-reads (places_read table i.thread (range_with_len first count)) i.thread.frames))
changes (Write a first count) table past formed fresh s =
    let running = formed.0.0 in
    let i = there table past a s running.0 in
    changed_by (Write a first count) table past a _ i refl running.0 (write_stands table past a first count i.thread (s.last ∙ running.1) i.stands)
    (same_starts (Write a first count) table _ _ refl)
changes (Fill first count) table past formed fresh s = tt
changes (Call a entry back) table past formed fresh s =
    let live = formed.0.0 in
    let i = there table past a s live in
    let new = fresh refl in
    changed_by (Call a entry back) table past a _ i refl live
    (call_stands table past a entry back i.thread new (new.above a i.thread i.found) (has_frame table past a i.thread formed.2 live i.stands) i.stands)
    (new_starts (Call a entry back) table i.thread entry (Some back) refl)
changes (Ret a target) table past formed fresh s =
    let live = formed.0.0 in
    let i = there table past a s live in
    changed_by (Ret a target) table past a _ i refl live
    (popped_stands (Ret a target) table (event_after (Ret a target) table) past a i.thread (λ at. refl) refl refl (λ l. refl) refl (λ l. refl) refl
    (few_pops table past a target i.thread formed.2 live i.stands) i.stands)
    (ret_starts table a target i.thread)
changes (Start a entry) table past formed fresh s =
    let new = with_frame table.counter entry None no_thread in
    let below = All-weaker (λ n. n ≤ greatest_start past) (λ n. n < a) (λ n h. omega (arith, h, formed.0)) (numbers table.threads) s.started in
    record {
      new = Some new;
      value = value_of-pushed table.threads a new below;
      stands = λ thread same. subst (ThreadStands (event_after (Start a entry) table) (Start a entry ∷ past) a) (the_same new thread same)
          (start_stands table past a entry (fresh refl) (unstarted past a formed.2 formed.0) s);
      live = sym (ap (λ b. b || is_live past a) (eq-eqb a a refl));
      starts = λ k c. elim (first_or_rest table.counter [] k c) [ inl old ↦ absurd (omega (arith, old.1)) | inr now ↦ inr (now, refl) ];
      frames = omega (arith, count-pushed table.threads a new, ap frames_of (value_of-above table.threads a below));
    }
changes (End a) table past formed fresh s =
    let i = there table past a s formed.0 in
    record {
      new = None;
      value = value_of-without table.threads a;
      stands = λ thread same. absurd (cc);
      live = sym (ap (λ b. not b && is_live past a) (eq-eqb a a refl));
      starts = λ k has. absurd has;
      frames = omega (arith, count-without table.threads a i.thread s.rising i.found, ap frames_of i.found);
    }

pub change : (e : Event) (t : ℕ) (table : Table) (past : List Event) → thread_of e ≡ Some t → IsWellFormed (e ∷ past) →
    (ticks e table.last ≡ true → IsFresh table) → Agrees table past → Change e table past t
change e t table past own formed fresh s = subst (λ o. IfSome o (Change e table past)) own (changes e table past formed fresh s)
