-- A tick keeps that the table agrees with the past, and leaves the counter above all stamps, renumbered or not.
use Rattle.std.proofs.Common.{inl, inr, ◌≡◌, ℕ, suc, ◌+◌, ◌*◌, ◌<◌, ◌≤◌, true, false, not, cond, eqb, ltb, leb, List, [], ◌∷◌, length, map, Option, Some, None, refl, sym, ap, subst, ◌∙◌, arith}
use Rattle.std.specs.Prelude.{All, Contains, is_some}
use Rattle.std.specs.Option.{option_map}
use Rattle.std.specs.List.{AllZip}
use Rattle.std.proofs.lemmas.Bool.{cases_lt, lt-ltb, ltb-true, leb-true, le-leb}
use Rattle.std.proofs.lemmas.Bool.Decides.{nat_tests}
use Rattle.guest_words.specs.ByThread.{IsRising, value_of}
use Rattle.guest_words.proofs.ThreadTables.{numbers-seen, value_of-seen}
use Rattle.trace_model.specs.declared.event_kinds.Event.{Event}
use Rattle.trace_model.specs.declared.activations.Activation.{Activation}
use Rattle.trace_model.specs.Activations.{open_calls}
use Rattle.trace_model.specs.WellFormed.{greatest_start}
use Rattle.trace_model.proofs.Pairs.{contains_from_map}
use Rattle.shadow_stack.specs.declared.sums.Sums.{Sums}
use Rattle.shadow_stack.specs.Frames.{Frame, plus, starts_of}
use Rattle.stamp_renumber.specs.Classes.{new_start, new_write, new_access}
use Rattle.stamp_renumber.proofs.Order.{class-strict, starts_keep_order, accesses_keep_order, writes_keep_order, writes_stay, new_stamps_fit}
use Rattle.stamp_table.specs.Frames.{no_sums}
use Rattle.stamp_table.specs.Table.{Thread, Table}
use Rattle.stamp_table.specs.Renewal.{all_starts, renewed_thread, renewed, plain_tick}
use Rattle.stamp_table.specs.Stands.{totals, IsStartOf, IsFalling, outermost, ThreadStands, HasStart, AreDistinct, Agrees}
use Rattle.stamp_table.specs.Laws.{IsAbove, IsFresh, IsTick, TicksKeepTheTable}
use Rattle.stamp_table.proofs.Threads.{starts_among}
use Rattle.stamp_table.proofs.Kept.{falling-weaker}
use Rattle.stamp_table.proofs.Own.{the_same}

-- ---- the counter rises by one
plain_tick_is_tick : IsTick plain_tick
plain_tick_is_tick = record {
  agrees = λ table past s. record {
    threads = λ t thread found.
        let h = s.threads t thread found in
        record {
          calls = h.calls;
          counts = h.counts;
          starts = h.starts;
          reached = h.reached;
          overwritten = h.overwritten;
          bounded = λ l. omega (arith, h.bounded l);
          away = λ other l. omega (arith, h.bounded l);
          falling = falling-weaker (table.counter + 1) ((table.counter + 1) + 1) (starts_of thread.frames) (omega arith) h.falling;
          sums = h.sums;
        };
    written = s.written;
    marks = s.marks;
    writes = λ l. omega (arith, s.writes l);
    distinct = s.distinct;
    formed = s.formed;
    live = s.live;
    rising = s.rising;
    started = s.started;
    last = s.last;
    greatest = s.greatest;
    weight = s.weight;
  };
  fresh = λ table past s. record {
    writes = λ l. omega (arith, s.writes l);
    above = λ t thread found.
        let h = s.threads t thread found in
        record { access = λ l. omega (arith, h.bounded l); starts = h.falling };
  };
}

-- ---- all stamps are renumbered
-- the starts, and the sums stay
starts-renewed : (starts : List ℕ) (frames : List Frame) →
    starts_of (map (λ (f : Frame). record f { start = new_start starts f.start }) frames) ≡ map (new_start starts) (starts_of frames)
starts-renewed starts [] = refl
starts-renewed starts (f ∷ frames) = ap (λ ss. new_start starts f.start ∷ ss) (starts-renewed starts frames)

totals-renewed : (starts : List ℕ) (above : Sums) (frames : List Frame) →
    totals above (map (λ (f : Frame). record f { start = new_start starts f.start }) frames) ≡ totals above frames
totals-renewed starts above [] = refl
totals-renewed starts above (f ∷ frames) = ap (λ ss. plus above f.sums ∷ ss) (totals-renewed starts (plus above f.sums) frames)

contains_here : (x : ℕ) (xs : List ℕ) → Contains (x ∷ xs) x
contains_here x xs = (0, omega arith, refl)

contains_later : (x : ℕ) (xs : List ℕ) (s : ℕ) → Contains xs s → Contains (x ∷ xs) s
contains_later x xs s (k, within, is) = (suc k, omega (arith, within), is)

-- `own` are the starts of one thread, the innermost first, and `starts` those of all threads
module _ (starts : List ℕ) where
  abbrev AreAmong : List ℕ → Type 0
  AreAmong own = (s : ℕ) → Contains own s → Contains starts s

  start_strict : (a b : ℕ) → Contains starts a → Contains starts b → a < b → new_start starts a < new_start starts b
  start_strict a b has_a has_b h = ltb-true _ _ (starts_keep_order starts a b has_a has_b ∙ lt-ltb a b h)

  -- two starts become the same only where they are
  one_start : (a b : ℕ) → Contains starts a → Contains starts b → new_start starts a ≡ new_start starts b → a ≡ b
  one_start a b has_a has_b equal =
      elim (cases_lt a b) [
        | inl h ↦ absurd (omega (arith, equal, start_strict a b has_a has_b h))
        | inr h ↦ elim (cases_lt b a) [
          | inl k ↦ absurd (omega (arith, equal, start_strict b a has_b has_a k))
          | inr k ↦ omega (arith, h, k)
        ]
      ]

  falling-renewed : (limit limit' : ℕ) (own : List ℕ) → AreAmong own → ((s : ℕ) → s < limit → Contains starts s → new_start starts s < limit') →
      IsFalling limit own → IsFalling limit' (map (new_start starts) own)
  falling-renewed limit limit' [] among below falling = tt
  falling-renewed limit limit' (s ∷ own) among below falling =
      let here = among s (contains_here s own) in (
        omega (arith, class-strict starts 0 s here falling.0),
        below s falling.1 here,
        falling-renewed s (new_start starts s) own (λ r c. among r (contains_later s own r c)) (λ r low has. start_strict r s has here low) falling.2,
      )

  zip-renewed : (past : List Event) (t : ℕ) (access write : ℕ → ℕ) (limit : ℕ) (own : List ℕ) (calls : List Activation) → AreAmong own → IsFalling limit own →
      AllZip (IsStartOf past t access) own calls →
      AllZip (IsStartOf past t (λ l. new_access starts (access l) (write l))) (map (new_start starts) own) calls
  zip-renewed past t access write limit [] [] among falling h = h
  zip-renewed past t access write limit [] (a ∷ calls) among falling h = h
  zip-renewed past t access write limit (s ∷ own) [] among falling h = h
  zip-renewed past t access write limit (s ∷ own) (a ∷ calls) among falling h = (
    (λ l. accesses_keep_order starts s (access l) (write l) (among s (contains_here s own)) falling.0 ∙ h.0 l),
    zip-renewed past t access write s own calls (λ r c. among r (contains_later s own r c)) falling.2 h.1,
  )

  outermost-renewed : (s : ℕ) (own : List ℕ) → outermost (map (new_start starts) (s ∷ own)) ≡ new_start starts (outermost (s ∷ own))
  outermost-renewed s [] = refl
  outermost-renewed s (r ∷ own) = outermost-renewed r own

  outermost_there : (s : ℕ) (own : List ℕ) → Contains (s ∷ own) (outermost (s ∷ own))
  outermost_there s [] = contains_here s []
  outermost_there s (r ∷ own) = contains_later s (r ∷ own) (outermost (r ∷ own)) (outermost_there r own)

  outermost_positive : (limit s : ℕ) (own : List ℕ) → IsFalling limit (s ∷ own) → 0 < outermost (s ∷ own)
  outermost_positive limit s [] falling = falling.0
  outermost_positive limit s (r ∷ own) falling = outermost_positive s r own falling.2

  reached-renewed : (access write limit : ℕ) (own : List ℕ) → AreAmong own → IsFalling limit own → (0 < access → outermost own ≤ access) →
      0 < new_access starts access write → outermost (map (new_start starts) own) ≤ new_access starts access write
  reached-renewed access write limit [] among falling h p = omega arith
  reached-renewed access write limit (s ∷ own) among falling h p =
      let low = outermost (s ∷ own) in
      elim (cases_lt 0 access) [
        | inl some ↦
            let kept : leb (new_start starts low) (new_access starts access write) ≡ true =
            accesses_keep_order starts low access write (among low (outermost_there s own)) (outermost_positive limit s own falling) ∙ le-leb low access (h some) in
            omega (arith, outermost-renewed s own, leb-true _ _ kept)
        | inr none ↦ absurd (omega (arith, p, none_new access (omega (arith, none))))
      ]
    where
      none_new : (access : ℕ) → access ≡ 0 → new_access starts access write ≡ 0
      none_new access is = ap (λ a. new_access starts a write) is

module _ (table : Table) where
  abbrev starts : List ℕ
  starts = all_starts table.threads

  abbrev after : Thread → Thread
  after thread = renewed_thread starts table.write thread

  value_after : (t : ℕ) → value_of (renewed table).threads t ≡ option_map after (value_of table.threads t)
  value_after t = value_of-seen after table.threads t

  -- a thread is one that was renumbered
  record WasThread (t : ℕ) (thread : Thread) : Type 0 where
    old : Thread
    found : value_of table.threads t ≡ Some old
    new : after old ≡ thread

  was_thread : (t : ℕ) (thread : Thread) → value_of (renewed table).threads t ≡ Some thread → WasThread t thread
  was_thread t thread is = by (value_of table.threads t) refl (sym (value_after t) ∙ is)
    where
      by : (o : Option Thread) → value_of table.threads t ≡ o → option_map after o ≡ Some thread → WasThread t thread
      by None found is = absurd (cc)
      by (Some old) found is = record { old = old; found = found; new = the_same (after old) thread is }

  fits : (stamp : ℕ) → new_start starts stamp < 3 * length starts + 3
  fits stamp = (new_stamps_fit starts stamp 0).0

  access_fits : (access write : ℕ) → new_access starts access write < 3 * length starts + 3
  access_fits access write = (new_stamps_fit starts access write).2

  falling_after : (limit t : ℕ) (thread : Thread) → value_of table.threads t ≡ Some thread → IsFalling limit (starts_of thread.frames) →
      IsFalling (3 * length starts + 3) (starts_of (after thread).frames)
  falling_after limit t thread found falling =
      subst (IsFalling (3 * length starts + 3)) (sym (starts-renewed starts thread.frames))
      (falling-renewed starts limit (3 * length starts + 3) (starts_of thread.frames) (λ s c. starts_among table.threads t s thread found c)
      (λ s low has. fits s) falling)

  thread_renewed : (past : List Event) (t : ℕ) (thread : Thread) → value_of table.threads t ≡ Some thread → ThreadStands table past t thread →
      ThreadStands (renewed table) past t (after thread)
  thread_renewed past t thread found h =
      let among : AreAmong starts (starts_of thread.frames) = λ s c. starts_among table.threads t s thread found c in
      let same = sym (starts-renewed starts thread.frames) in
      record {
        calls = h.calls;
        counts = h.counts;
        starts = subst (λ ss. AllZip (IsStartOf past t (after thread).access) ss (open_calls past t)) same
            (zip-renewed starts past t thread.access table.write (table.counter + 1) (starts_of thread.frames) (open_calls past t) among h.falling h.starts);
        reached = λ l p. subst (λ ss. outermost ss ≤ (after thread).access l) same
            (reached-renewed starts (thread.access l) (table.write l) (table.counter + 1) (starts_of thread.frames) among h.falling (h.reached l) p);
        overwritten = λ l. writes_keep_order starts (thread.access l) (table.write l) ∙ h.overwritten l;
        bounded = λ l. omega (arith, access_fits (thread.access l) (table.write l));
        away = λ other l. access_fits (thread.access l) (table.write l);
        falling = falling-weaker (3 * length starts + 3) ((3 * length starts + 3) + 1) (starts_of (after thread).frames) (omega arith)
            (falling_after (table.counter + 1) t thread found h.falling);
        sums = totals-renewed starts no_sums thread.frames ∙ h.sums;
      }

  write_stays : (write : ℕ) → ltb 0 (new_write starts write) ≡ ltb 0 write
  write_stays write = not_zero (new_write starts write) ∙ ap not (writes_stay starts write) ∙ sym (not_zero write)
    where
      not_zero : (n : ℕ) → ltb 0 n ≡ not (eqb n 0)
      not_zero n = grind (arith, nat_tests)

  -- a start that was renumbered
  record WasStart (t s : ℕ) : Type 0 where
    old : ℕ
    has : HasStart (value_of table.threads t) old
    among : Contains starts old
    new : new_start starts old ≡ s

  was_start : (t s : ℕ) → HasStart (value_of (renewed table).threads t) s → WasStart t s
  was_start t s has = by (value_of table.threads t) refl (subst (λ o. HasStart o s) (value_after t) has)
    where
      by : (o : Option Thread) → value_of table.threads t ≡ o → HasStart (option_map after o) s → WasStart t s
      by None found has = absurd has
      by (Some thread) found has =
          let from = contains_from_map (new_start starts) (starts_of thread.frames) s (subst (λ ss. Contains ss s) (starts-renewed starts thread.frames) has) in
          record {
            old = from.0;
            has = subst (λ o. HasStart o from.0) (sym found) from.1;
            among = starts_among table.threads t from.0 thread found from.1;
            new = from.2;
          }

  distinct_renewed : AreDistinct table.threads → AreDistinct (renewed table).threads
  distinct_renewed distinct s t u here there =
      let a = was_start t s here in
      let b = was_start u s there in
      let same : a.old ≡ b.old = one_start starts a.old b.old a.among b.among (a.new ∙ sym b.new) in
      distinct b.old t u (subst (HasStart (value_of table.threads t)) same a.has) b.has

  renewed_agrees : (past : List Event) → Agrees table past → Agrees (renewed table) past
  renewed_agrees past s = record {
    threads = λ t thread is.
        let w = was_thread t thread is in
        subst (ThreadStands (renewed table) past t) w.new (thread_renewed past t w.old w.found (s.threads t w.old w.found));
    written = λ l. write_stays (table.write l) ∙ s.written l;
    marks = s.marks;
    writes = λ l. omega (arith, (new_stamps_fit starts 0 (table.write l)).1);
    distinct = distinct_renewed s.distinct;
    formed = s.formed;
    live = λ t. ap is_some (value_after t) ∙ kept (value_of table.threads t) ∙ s.live t;
    rising = subst IsRising (sym (numbers-seen after table.threads)) s.rising;
    started = subst (All (λ n. n ≤ greatest_start past)) (sym (numbers-seen after table.threads)) s.started;
    last = s.last;
    greatest = s.greatest;
    weight = s.weight;
  }
    where
      kept : (o : Option Thread) → is_some (option_map after o) ≡ is_some o
      kept None = refl
      kept (Some thread) = refl

  renewed_fresh : (past : List Event) → Agrees table past → IsFresh (renewed table)
  renewed_fresh past s = record {
    writes = λ l. (new_stamps_fit starts 0 (table.write l)).1;
    above = λ t thread is.
        let w = was_thread t thread is in
        subst (IsAbove (3 * length starts + 3)) w.new
        (record { access = λ l. access_fits (w.old.access l) (table.write l); starts = falling_after (table.counter + 1) t w.old w.found (s.threads t w.old w.found).falling });
  }

pub bounded_tick_is_tick : TicksKeepTheTable
bounded_tick_is_tick most = record {
  agrees = λ table past s.
      elim (ltb table.counter most) as (λ b. Agrees (cond b (plain_tick table) (renewed table)) past) [
        | true ↦ plain_tick_is_tick.agrees table past s
        | false ↦ renewed_agrees table past s
      ];
  fresh = λ table past s.
      elim (ltb table.counter most) as (λ b. IsFresh (cond b (plain_tick table) (renewed table))) [
        | true ↦ plain_tick_is_tick.fresh table past s
        | false ↦ renewed_fresh table past s
      ];
}
