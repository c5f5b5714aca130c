-- A read of a word that the thread has accessed since the counter last moved, and a write of one that it wrote last since then:
-- each changes nothing but the weight.
use Rattle.std.proofs.Common.{◌≡◌, ℕ, ◌+◌, ◌≤◌, Bool, true, false, cond, leb, List, [], ◌∷◌, refl, sym, ap, subst, ◌∙◌, arith}
use Rattle.std.specs.Prelude.{◌==◌, ◌&&◌, not, count_by, reverse}
use Rattle.std.specs.List.{range_with_len}
use Rattle.std.proofs.lemmas.Bool.Decides.{nat_tests}
use Rattle.std.proofs.lemmas.Int.{ints}
use Rattle.guest_words.proofs.ThreadTables.{with_own}
use Rattle.trace_model.specs.declared.event_kinds.Event.TheVariants.{Read, Write}
use Rattle.trace_model.specs.Observing.{MayTake}
use Rattle.stamp_lanes.specs.Plain.{Place, is_by_kernel, is_by_thread, is_foreign}
use Rattle.shadow_stack.specs.Frames.{Frame, plus, starts_of}
use Rattle.shadow_pages.specs.Pages.{in_range, stamp_at}
use Rattle.call_tracker.specs.ThreadCalls.{Calls}
use Rattle.stamp_renumber.specs.Counted.{found_added}
use Rattle.stamp_renumber.specs.Threads.{Live, calls_of, frames_of, pages_of, stamped}
use Rattle.stamp_table.specs.Frames.{added_to_top, frames_after_read, gain, negated, taken_at}
use Rattle.shadow_core.specs.Profiling.{StandsFor}
use Rattle.shadow_core.specs.Private.Reading.{IsChanged, IsRead, places_at}
use Rattle.stamp_table.specs.Renewal.{bounded_tick}
use Rattle.stamp_table.specs.Stands.{IsFalling}
use Rattle.shadow_core.specs.State.{State, as_thread, table_of_state}
use Rattle.stamp_table.specs.Ticks.{table_after}
use Rattle.shadow_core.proofs.Accessed.{its_calls, written}
use Rattle.stamp_table.proofs.Frames.{same_sums}
use Rattle.shadow_core.proofs.Profiled.{IsAlive, alive_here, lives_here}
use Rattle.shadow_core.proofs.ReadEvents.{MayRead, frames_had, may_read, pages_had, read_made}
use Rattle.shadow_core.proofs.Reading.{in_one, not_changed}
use Rattle.shadow_core.proofs.StateTold.{thread_is_told}

-- The innermost frame gets back what it gives.
at_the_top : (p : Place) (limit : ℕ) (frames : List Frame) → IsFalling limit (starts_of frames) → limit ≤ p.own + 1 → frames_after_read p frames ≡ frames
at_the_top p limit [] falling le = refl
at_the_top p limit (f ∷ frames) falling le =
    let low : leb f.start p.own ≡ true = grind (arith, nat_tests, falling.1, le) in
    let same : plus (plus f.sums (negated (gain p))) (gain p) ≡ f.sums = same_sums _ _ (omega (arith, ints)) (omega (arith, ints)) in
    ap (λ b. added_to_top (gain p) (cond b (record f { sums = plus f.sums (negated (gain p)) } ∷ frames) (f ∷ taken_at (gain p) p.own frames))) low
    ∙ (λ i. record f { sums = same i } ∷ frames)

-- No one wrote the word since.
pub not_foreign : (p : Place) → p.write ≤ p.own → is_foreign p ≡ false
not_foreign p le = grind (arith, nat_tests, le)

none_by_thread : (p : Place) → p.write ≤ p.own → 0 ≡ count_by is_by_thread (p ∷ [])
none_by_thread p le = sym (ap (λ b. 0 + cond (b && p.mark == 0) 1 0) (not_foreign p le))

none_by_kernel : (p : Place) → p.write ≤ p.own → 0 ≡ count_by is_by_kernel (p ∷ [])
none_by_kernel p le = sym (ap (λ b. 0 + cond (b && not (p.mark == 0)) 1 0) (not_foreign p le))

-- The word has the stamp already.
same_stamps : (stamps : ℕ → ℕ) (w stamp : ℕ) → stamps w ≡ stamp → (v : ℕ) → stamps v ≡ cond (in_range w 1 v) stamp (stamps v)
same_stamps stamps w stamp is v = by (v == w) refl ∙ sym (ap (λ b. cond b stamp (stamps v)) (in_one w v))
  where
    by : (b : Bool) → (v == w) ≡ b → stamps v ≡ cond (v == w) stamp (stamps v)
    by true here =
        let same : v ≡ w = grind (arith, nat_tests, here) in
        ap stamps same ∙ is ∙ sym (ap (λ b. cond b stamp (stamps v)) here)
    by false here = sym (ap (λ b. cond b stamp (stamps v)) here)

-- the calls stay, where nothing was found
found_none : (c : Calls) → found_added 0 0 c ≡ c
found_none c =
    let thread : c.counts.thread + 0 ≡ c.counts.thread = omega arith in
    let kernel : c.counts.kernel + 0 ≡ c.counts.kernel = omega arith in
    λ i. record c { counts = record c.counts { thread = thread i; kernel = kernel i } }

pub read_again : (most t w count : ℕ) (s now : State) (heavier : ℕ) → s ≡ now → MayTake (StandsFor most) now (Read t w count) → count ≡ 1 →
    stamp_at (pages_of s.live.threads t) w ≡ s.counter → heavier ≡ s.weight + 2 →
    table_of_state (record s { weight = heavier }) ≡ table_after (bounded_tick most) (Read t w count) (table_of_state now)
read_again most t w count s now heavier is may one own weighed =
    ap (λ n. table_of_state (record s { weight = n })) weighed
    ∙ read_made most t w 1 0 0 s s.live s.live m.was m.has read threads kernels m.was (sym (with_own s.live.threads t m.was m.has.stamps)) (sym had) (sym (pages_had s t m.was m.has))
    (sym (found_none m.was.calls) ∙ ap (found_added 0 0) (sym (its_calls s.live.threads t m.was m.has.stamps)))
    ∙ ap (λ n. table_after (bounded_tick most) (Read t w n) (table_of_state s)) (sym one)
    ∙ ap (λ (k : State). table_after (bounded_tick most) (Read t w count) (table_of_state k)) is
  where
    here : MayTake (StandsFor most) s (Read t w count)
    here = subst (λ (k : State). MayTake (StandsFor most) k (Read t w count)) (sym is) may

    m : MayRead s t w count
    m = may_read most t w count s here

    p : Place
    p = record { own = stamp_at (pages_of s.live.threads t) w; write = stamp_at s.writes w; mark = stamp_at s.marks w }

    written : p.write ≤ p.own
    written = let low = here.now.agrees.writes w in omega (arith, low, own)

    threads : 0 ≡ count_by is_by_thread (places_at (stamp_at (pages_of s.live.threads t)) (stamp_at s.writes) (stamp_at s.marks) (range_with_len w 1))
    threads = none_by_thread p written

    kernels : 0 ≡ count_by is_by_kernel (places_at (stamp_at (pages_of s.live.threads t)) (stamp_at s.writes) (stamp_at s.marks) (range_with_len w 1))
    kernels = none_by_kernel p written

    falling : IsFalling (s.counter + 1) (starts_of (reverse m.was.frames))
    falling =
        (here.now.agrees.threads t (as_thread m.was) (thread_is_told s t m.was m.has)).falling

    had : frames_of s.live.threads t ≡ m.was.frames
    had = frames_had s t m.was m.has

    unmoved : reverse (frames_of s.live.threads t) ≡ frames_after_read p (reverse (frames_of s.live.threads t))
    unmoved =
        let limit : s.counter + 1 ≤ p.own + 1 = omega (arith, own) in
        sym (at_the_top p (s.counter + 1) (reverse (frames_of s.live.threads t)) (subst (λ (fs : List Frame). IsFalling (s.counter + 1) (starts_of (reverse fs))) (sym had) falling) limit)

    read : IsRead s.live s.live t (stamp_at s.writes) (stamp_at s.marks) w 1 s.counter
    read = record {
      changed = not_changed s.live t m.lives;
      frames = unmoved;
      stamps = same_stamps (stamp_at (pages_of s.live.threads t)) w s.counter own;
      covered = λ v. refl;
    }

-- A read of a word that no one else wrote since the thread's access.
pub read_by_own : (most t w : ℕ) (s now : State) (read : Live) (stamp heavier : ℕ) → s ≡ now → MayTake (StandsFor most) now (Read t w 1) →
    IsRead s.live read t (stamp_at s.writes) (stamp_at s.marks) w 1 stamp → stamp ≡ s.counter →
    stamp_at s.writes w ≤ stamp_at (pages_of s.live.threads t) w → heavier ≡ s.weight + 2 →
    table_of_state (record s { live = read; weight = heavier }) ≡ table_after (bounded_tick most) (Read t w 1) (table_of_state now)
read_by_own most t w s now read stamp heavier is may made counter low weighed =
    ap (λ n. table_of_state (record s { live = read; weight = n })) weighed
    ∙ read_made most t w 1 0 0 s read read m.was m.has (subst (λ (n : ℕ). IsRead s.live read t (stamp_at s.writes) (stamp_at s.marks) w 1 n) counter made) threads kernels
    (stamped read.threads t (frames_of read.threads t) (pages_of read.threads t)) made.changed.threads refl refl
    (made.changed.calls ∙ sym (found_none (calls_of s.live.threads t)))
    ∙ ap (λ (k : State). table_after (bounded_tick most) (Read t w 1) (table_of_state k)) is
  where
    m : MayRead s t w 1
    m = may_read most t w 1 s (subst (λ (k : State). MayTake (StandsFor most) k (Read t w 1)) (sym is) may)

    p : Place
    p = record { own = stamp_at (pages_of s.live.threads t) w; write = stamp_at s.writes w; mark = stamp_at s.marks w }

    threads : 0 ≡ count_by is_by_thread (places_at (stamp_at (pages_of s.live.threads t)) (stamp_at s.writes) (stamp_at s.marks) (range_with_len w 1))
    threads = none_by_thread p low

    kernels : 0 ≡ count_by is_by_kernel (places_at (stamp_at (pages_of s.live.threads t)) (stamp_at s.writes) (stamp_at s.marks) (range_with_len w 1))
    kernels = none_by_kernel p low

pub write_again : (most t w count : ℕ) (s now : State) (heavier : ℕ) → s ≡ now → MayTake (StandsFor most) now (Write t w count) → count ≡ 1 →
    stamp_at (pages_of s.live.threads t) w ≡ s.counter → stamp_at s.writes w ≡ s.counter → stamp_at s.marks w ≡ 0 → heavier ≡ s.weight + 1 →
    table_of_state (record s { weight = heavier }) ≡ table_after (bounded_tick most) (Write t w count) (table_of_state now)
write_again most t w count s now heavier is may one own wrote unmarked weighed =
    ap (λ n. table_of_state (record s { weight = n })) weighed
    ∙ written most t w 1 s a.was s.live s.live s.writes s.marks s.writes s.marks a.has unchanged (λ l. refl) (λ l. refl) (λ l. refl) unchanged
    (same_stamps (stamp_at (pages_of s.live.threads t)) w s.counter own) (same_stamps (stamp_at s.writes) w s.counter wrote) (same_stamps (stamp_at s.marks) w 0 unmarked)
    ∙ ap (λ n. table_after (bounded_tick most) (Write t w n) (table_of_state s)) (sym one)
    ∙ ap (λ (k : State). table_after (bounded_tick most) (Write t w count) (table_of_state k)) is
  where
    a : IsAlive s t
    a = alive_here most (Write t w count) t s now is may may.formed.0.0.0

    unchanged : IsChanged s.live s.live t (frames_of s.live.threads t) (pages_of s.live.threads t)
    unchanged = not_changed s.live t (lives_here s t a)
