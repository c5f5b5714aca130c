-- What a live thread's part of the table says, after an event that begins or ends activations of it, or does neither.
use Rattle.std.proofs.Common.{◌≡◌, ◌≢◌, ℕ, zero, suc, ◌+◌, ◌<◌, ◌≤◌, Bool, true, false, not, cond, ltb, leb, ◌&&◌, ◌||◌, List, [], ◌∷◌, ◌++◌, length, drop, map, Option, Some, refl, sym, ap, subst, ◌∙◌, arith, pos}
use Rattle.std.specs.Prelude.{All}
use Rattle.std.specs.List.{AllZip}
use Rattle.std.proofs.lemmas.Bool.{lt-leb}
use Rattle.std.proofs.lemmas.List.{drop-map}
use Rattle.std.proofs.lemmas.List.Elements.{All-head, All-tail}
use Rattle.trace_model.specs.declared.event_kinds.Event.{Event}
use Rattle.trace_model.specs.declared.event_kinds.Touch.TheVariants.{Untouched}
use Rattle.trace_model.specs.declared.activations.Activation.{Activation}
use Rattle.trace_model.specs.Events.{touch, words_read, steps_run}
use Rattle.trace_model.specs.Activations.{begun, count_ending, open_calls, backs}
use Rattle.trace_model.specs.Sizes.{since, newer, is_own, last_touch, accessed}
use Rattle.trace_model.proofs.Ended.{open_calls_begun}
use Rattle.trace_model.proofs.Positions.{since_more, since_none}
use Rattle.stamp_lanes.specs.Plain.{Place}
use Rattle.shadow_stack.specs.declared.sums.Sums.{Sums}
use Rattle.shadow_stack.specs.Frames.{starts_of}
use Rattle.stamp_table.specs.Frames.{no_sums, frames_after_reads, frames_after_pops}
use Rattle.call_tracker.specs.ThreadCalls.{CountedCall, Counts}
use Rattle.stamp_table.specs.Table.{Thread, Table, places_read, count_pops, with_frame}
use Rattle.stamp_table.specs.Past.{is_by_others, counts_of, call_of, sums_of}
use Rattle.stamp_table.specs.Stands.{totals, IsStartOf, IsFalling, outermost, ThreadStands}
use Rattle.stamp_table.proofs.Frames.{starts-reads, starts-pops, totals-reads, totals-pops, Tells, with_gains, zip-map}
use Rattle.stamp_table.proofs.Inside.{IsBegun, gained, calls_more, sums_more, call_now, sums_now, counts_idle, plain_is}

-- ---- starts
start_more : (e : Event) (past : List Event) (t : ℕ) (access access' : ℕ → ℕ) (s : ℕ) (a : Activation) → IsBegun past a →
    ((l : ℕ) → leb s (access' l) ≡ (is_own (touch e t l) || leb s (access l))) → IsStartOf past t access s a → IsStartOf (e ∷ past) t access' s a
start_more e past t access access' s a begun reach h =
    λ l. reach l ∙ ap (λ b. is_own (touch e t l) || b) (h l) ∙ sym (ap (λ i. accessed i t l) (since_more e past a.at begun))

starts_more : (e : Event) (past : List Event) (t : ℕ) (access access' : ℕ → ℕ) (limit : ℕ) →
    ((s l : ℕ) → s < limit → leb s (access' l) ≡ (is_own (touch e t l) || leb s (access l))) →
    (starts : List ℕ) (calls : List Activation) → IsFalling limit starts → All (IsBegun past) calls →
    AllZip (IsStartOf past t access) starts calls → AllZip (IsStartOf (e ∷ past) t access') starts calls
starts_more e past t access access' limit reach [] [] falling begun h = h
starts_more e past t access access' limit reach [] (a ∷ calls) falling begun h = h
starts_more e past t access access' limit reach (s ∷ starts) [] falling begun h = h
starts_more e past t access access' limit reach (s ∷ starts) (a ∷ calls) falling begun h = (
  start_more e past t access access' s a (All-head (IsBegun past) a calls begun) (λ l. reach s l falling.1) h.0,
  starts_more e past t access access' s (λ r l low. reach r l (omega (arith, low, falling.1))) starts calls falling.2
      (All-tail (IsBegun past) a calls begun) h.1,
)

zip-drop : {A B : Type 0} (P : A → B → Type 0) (n : ℕ) (xs : List A) (ys : List B) → AllZip P xs ys → AllZip P (drop n xs) (drop n ys)
zip-drop P zero xs ys h = h
zip-drop P (suc n) [] [] h = h
zip-drop P (suc n) [] (y ∷ ys) h = absurd h
zip-drop P (suc n) (x ∷ xs) [] h = absurd h
zip-drop P (suc n) (x ∷ xs) (y ∷ ys) h = zip-drop P n xs ys h.1

pub falling-weaker : (limit limit' : ℕ) (starts : List ℕ) → limit ≤ limit' → IsFalling limit starts → IsFalling limit' starts
falling-weaker limit limit' [] h falling = tt
falling-weaker limit limit' (s ∷ starts) h falling = (falling.0, omega (arith, falling.1), falling.2)

falling-drop : (n limit : ℕ) (starts : List ℕ) → IsFalling limit starts → IsFalling limit (drop n starts)
falling-drop zero limit starts h = h
falling-drop (suc n) limit [] h = h
falling-drop (suc n) limit (s ∷ starts) h = falling-drop n limit starts (falling-weaker s limit starts (omega (arith, h.1)) h.2)

outermost-drop : (n : ℕ) (starts : List ℕ) → n < length starts → outermost (drop n starts) ≡ outermost starts
outermost-drop zero starts low = refl
outermost-drop (suc n) [] low = absurd (omega (arith, low))
outermost-drop (suc n) (s ∷ []) low = absurd (omega (arith, low))
outermost-drop (suc n) (s ∷ r ∷ starts) low = outermost-drop n (r ∷ starts) (omega (arith, low))

outermost-cons : (s : ℕ) (starts : List ℕ) → 0 < length starts → outermost (s ∷ starts) ≡ outermost starts
outermost-cons s [] h = absurd (omega (arith, h))
outermost-cons s (r ∷ starts) h = refl

pub outermost-le : (limit : ℕ) (starts : List ℕ) → IsFalling (limit + 1) starts → outermost starts ≤ limit
outermost-le limit [] falling = omega arith
outermost-le limit (s ∷ []) falling = omega (arith, falling.1)
outermost-le limit (s ∷ r ∷ starts) falling = outermost-le limit (r ∷ starts) (falling.2.0, omega (arith, falling.1, falling.2.1), falling.2.2)

-- ---- what the stamps of a word tell of a read of it
abbrev place_of : Table → Thread → ℕ → Place
place_of table thread l = record { own = thread.access l; write = table.write l; mark = table.marks l }

told : (within foreign : Bool) → ◌≡◌ {A = Sums} (record { plain = pos (cond (not within && not foreign) 1 0); bare = pos (cond (not within) 1 0) })
    (cond within no_sums (record { plain = cond foreign (pos 0) (pos 1); bare = pos 1 }))
told true foreign = refl
told false true = refl
told false false = refl

tells : (table : Table) (past : List Event) (t : ℕ) (thread : Thread) → ThreadStands table past t thread → (l : ℕ) →
    AllZip (Tells (place_of table thread) (gained past t) l) (starts_of thread.frames) (open_calls past t)
tells table past t thread stands l =
    zip-map (IsStartOf past t thread.access) (Tells (place_of table thread) (gained past t) l)
    (λ s a h. ap (λ b. record { plain = pos (cond b 1 0); bare = pos (cond (not (accessed (since past a.at) t l)) 1 0) }) (plain_is past t a.at l)
    ∙ told (accessed (since past a.at) t l) (is_by_others (last_touch past t l))
    ∙ (λ i. cond (sym (h l) i) no_sums (record { plain = cond (sym (stands.overwritten l) i) (pos 0) (pos 1); bare = pos 1 })))
    (starts_of thread.frames) (open_calls past t) stands.starts

-- the totals after a read of words
pub totals_after : (table : Table) (past : List Event) (t : ℕ) (thread : Thread) (words : List ℕ) → ThreadStands table past t thread →
    totals no_sums (frames_after_reads (places_read table thread words) thread.frames)
    ≡ map (λ a. with_gains (gained past t a) words (sums_of past t a)) (open_calls past t)
totals_after table past t thread words stands =
    totals-reads (place_of table thread) (gained past t) words (sums_of past t) (table.counter + 1) thread.frames (open_calls past t)
    stands.falling (tells table past t thread stands) stands.sums

-- ---- an event that begins and ends none of the thread's activations
pub record IsStill (e : Event) (t : ℕ) : Type 0 where
  pub begins : (at : ℕ) → begun e t at ≡ []
  pub ends : (bs : List (Option ℕ)) → count_ending e t bs ≡ 0

-- the thread after it: it read these words, and has these stamps and counts
abbrev pub still_thread : Table → List ℕ → (ℕ → ℕ) → Counts → Thread → Thread
still_thread table words access counts thread =
    record thread { frames = frames_after_reads (places_read table thread words) thread.frames; access = access; counts = counts }

pub record StillStands (e : Event) (table table' : Table) (past : List Event) (t : ℕ) (thread : Thread) (words : List ℕ) (access : ℕ → ℕ) (counts : Counts) : Type 0 where
  pub counter : table'.counter ≡ table.counter
  pub read : words_read e t ≡ words
  pub counted : counts ≡ counts_of (e ∷ past) t
  pub reach : (s l : ℕ) → s < table.counter + 1 → leb s (access l) ≡ (is_own (touch e t l) || leb s (thread.access l))
  pub reached : (l : ℕ) → 0 < access l → outermost (starts_of thread.frames) ≤ access l
  pub overwritten : (l : ℕ) → ltb (access l) (table'.write l) ≡ is_by_others (newer (touch e t l) (last_touch past t l))
  pub bounded : (l : ℕ) → access l ≤ table.counter
  pub away : table'.last ≢ Some t → (l : ℕ) → access l < table.counter

pub still_stands : (e : Event) (table table' : Table) (past : List Event) (t : ℕ) (thread : Thread) (words : List ℕ) (access : ℕ → ℕ) (counts : Counts) →
    IsStill e t → StillStands e table table' past t thread words access counts → ThreadStands table past t thread →
    ThreadStands table' (e ∷ past) t (still_thread table words access counts thread)
still_stands e table table' past t thread words access counts still h s =
    let calls = open_calls past t in
    let begun_all = open_calls_begun past t in
    let opens : calls ≡ open_calls (e ∷ past) t =
    sym (ap (λ b. b ++ drop (count_ending e t (backs calls)) calls) (still.begins (length past)) ∙ ap (λ n. drop n calls) (still.ends (backs calls))) in
    let same = sym (starts-reads (places_read table thread words) thread.frames) in
    let starts = starts_more e past t thread.access access (table.counter + 1) h.reach (starts_of thread.frames) calls s.falling begun_all s.starts in
    record {
      calls = s.calls ∙ sym (calls_more e past t calls begun_all) ∙ ap (map (call_of (e ∷ past) t)) opens;
      counts = h.counted;
      starts = subst (λ cs. AllZip (IsStartOf (e ∷ past) t access) (starts_of (frames_after_reads (places_read table thread words) thread.frames)) cs) opens
          (subst (λ ss. AllZip (IsStartOf (e ∷ past) t access) ss calls) same starts);
      reached = λ l p. subst (λ ss. outermost ss ≤ access l) same (h.reached l p);
      overwritten = h.overwritten;
      bounded = λ l. omega (arith, h.bounded l, h.counter);
      away = λ other l. omega (arith, h.away other l, h.counter);
      falling = subst (λ n. IsFalling (n + 1) (starts_of (frames_after_reads (places_read table thread words) thread.frames))) (sym h.counter)
          (subst (IsFalling (table.counter + 1)) same s.falling);
      sums = totals_after table past t thread words s ∙ sym (sums_more e past t words h.read calls begun_all) ∙ ap (map (sums_of (e ∷ past) t)) opens;
    }

-- ---- an event that begins an activation
pub record BeginsOne (e : Event) (past : List Event) (t : ℕ) (a : Activation) : Type 0 where
  pub begun : begun e t (length past) ≡ a ∷ []
  pub ends : (bs : List (Option ℕ)) → count_ending e t bs ≡ 0
  pub here : a.at ≡ length past
  pub reads : words_read e t ≡ []
  pub steps : steps_run e t ≡ 0
  pub touches : (l : ℕ) → touch e t l ≡ Untouched

pub begun_stands : (e : Event) (table table' : Table) (past : List Event) (t : ℕ) (thread : Thread) (a : Activation) → BeginsOne e past t a →
    table'.counter ≡ table.counter → ((l : ℕ) → table'.write l ≡ table.write l) → table'.last ≡ table.last →
    0 < table.counter → ((l : ℕ) → thread.access l < table.counter) → IsFalling table.counter (starts_of thread.frames) →
    ((l : ℕ) → 0 < thread.access l → 0 < length (starts_of thread.frames)) → ThreadStands table past t thread →
    ThreadStands table' (e ∷ past) t (with_frame table.counter a.entry a.back thread)
begun_stands e table table' past t thread a one counter write last positive below falling some s =
    let calls = open_calls past t in
    let begun_all = open_calls_begun past t in
    let opens : open_calls (e ∷ past) t ≡ a ∷ calls =
    ap (λ b. b ++ drop (count_ending e t (backs calls)) calls) one.begun ∙ ap (λ n. a ∷ drop n calls) (one.ends (backs calls)) in
    let counts : thread.counts ≡ counts_of (e ∷ past) t = s.counts ∙ sym (counts_idle e past t one.reads one.steps) in
    let call : record { entry = a.entry; back = a.back; earlier = thread.counts } ≡ call_of (e ∷ past) t a =
    (λ i. record { entry = a.entry; back = a.back; earlier = counts i }) ∙ sym (call_now e past t a one.here) in
    let older : thread.calls ≡ map (call_of (e ∷ past) t) calls = s.calls ∙ sym (calls_more e past t calls begun_all) in
    let sum = sym (sums_now e past t a one.here) in
    let sums : totals no_sums thread.frames ≡ map (sums_of (e ∷ past) t) calls = s.sums ∙ sym (sums_more e past t [] one.reads calls begun_all) in
    let inside : IsStartOf (e ∷ past) t thread.access table.counter a =
    λ l. lt-leb table.counter (thread.access l) (below l) ∙ sym (ap (λ i. accessed i t l) (since_none (e ∷ past) a.at (omega (arith, one.here)))) in
    let starts = starts_more e past t thread.access thread.access (table.counter + 1)
    (λ r l low. sym (ap (λ w. is_own w || leb r (thread.access l)) (one.touches l))) (starts_of thread.frames) calls s.falling begun_all s.starts in
    record {
      calls = (λ i. call i ∷ older i) ∙ sym (ap (map (call_of (e ∷ past) t)) opens);
      counts = counts;
      starts = subst (λ cs. AllZip (IsStartOf (e ∷ past) t thread.access) (table.counter ∷ starts_of thread.frames) cs) (sym opens) (inside, starts);
      reached = λ l p. subst (λ n. n ≤ thread.access l) (sym (outermost-cons table.counter (starts_of thread.frames) (some l p))) (s.reached l p);
      overwritten = λ l. ap (ltb (thread.access l)) (write l) ∙ s.overwritten l ∙ sym (ap (λ w. is_by_others (newer w (last_touch past t l))) (one.touches l));
      bounded = λ l. omega (arith, below l, counter);
      away = λ other l. omega (arith, below l, counter);
      falling = (positive, omega (arith, counter), falling);
      sums = (λ i. sum i ∷ sums i) ∙ sym (ap (map (sums_of (e ∷ past) t)) opens);
    }

-- ---- an event that ends activations, but not all
map-backs : (past : List Event) (t : ℕ) (calls : List Activation) → map (λ (c : CountedCall). c.back) (map (call_of past t) calls) ≡ backs calls
map-backs past t [] = refl
map-backs past t (a ∷ calls) = ap (λ bs. a.back ∷ bs) (map-backs past t calls)

pub backs-stand : (past : List Event) (t : ℕ) (calls : List CountedCall) → calls ≡ map (call_of past t) (open_calls past t) →
    map (λ (c : CountedCall). c.back) calls ≡ backs (open_calls past t)
backs-stand past t calls is = ap (map (λ (c : CountedCall). c.back)) is ∙ map-backs past t (open_calls past t)

pub popped_stands : (e : Event) (table table' : Table) (past : List Event) (t : ℕ) (thread : Thread) → ((at : ℕ) → begun e t at ≡ []) →
    words_read e t ≡ [] → steps_run e t ≡ 0 → ((l : ℕ) → touch e t l ≡ Untouched) →
    table'.counter ≡ table.counter → ((l : ℕ) → table'.write l ≡ table.write l) → table'.last ≡ table.last →
    count_pops e t thread < length (starts_of thread.frames) → ThreadStands table past t thread →
    ThreadStands table' (e ∷ past) t (record thread { frames = frames_after_pops (count_pops e t thread) thread.frames; calls = drop (count_pops e t thread) thread.calls })
popped_stands e table table' past t thread none reads idle touches counter write last few s =
    let calls = open_calls past t in
    let begun_all = open_calls_begun past t in
    let n = count_pops e t thread in
    let opens : drop n calls ≡ open_calls (e ∷ past) t =
    ap (λ bs. drop (count_ending e t bs) calls) (backs-stand past t thread.calls s.calls) ∙ sym (ap (λ b. b ++ drop (count_ending e t (backs calls)) calls) (none (length past))) in
    let same = sym (starts-pops n thread.frames) in
    let older : thread.calls ≡ map (call_of (e ∷ past) t) calls = s.calls ∙ sym (calls_more e past t calls begun_all) in
    let sums : totals no_sums thread.frames ≡ map (sums_of (e ∷ past) t) calls = s.sums ∙ sym (sums_more e past t [] reads calls begun_all) in
    let starts = starts_more e past t thread.access thread.access (table.counter + 1)
    (λ r l low. sym (ap (λ w. is_own w || leb r (thread.access l)) (touches l))) (starts_of thread.frames) calls s.falling begun_all s.starts in
    record {
      calls = ap (drop n) older ∙ drop-map (call_of (e ∷ past) t) n calls ∙ ap (map (call_of (e ∷ past) t)) opens;
      counts = s.counts ∙ sym (counts_idle e past t reads idle);
      starts = subst (λ cs. AllZip (IsStartOf (e ∷ past) t thread.access) (starts_of (frames_after_pops n thread.frames)) cs) opens
          (subst (λ ss. AllZip (IsStartOf (e ∷ past) t thread.access) ss (drop n calls)) same
          (zip-drop (IsStartOf (e ∷ past) t thread.access) n (starts_of thread.frames) calls starts));
      reached = λ l p. subst (λ ss. outermost ss ≤ thread.access l) same
          (subst (λ m. m ≤ thread.access l) (sym (outermost-drop n (starts_of thread.frames) few)) (s.reached l p));
      overwritten = λ l. ap (ltb (thread.access l)) (write l) ∙ s.overwritten l ∙ sym (ap (λ w. is_by_others (newer w (last_touch past t l))) (touches l));
      bounded = λ l. omega (arith, s.bounded l, counter);
      away = λ other l. omega (arith, s.away (λ is. other (last ∙ is)) l, counter);
      falling = subst (λ m. IsFalling (m + 1) (starts_of (frames_after_pops n thread.frames))) (sym counter)
          (subst (IsFalling (table.counter + 1)) same (falling-drop n (table.counter + 1) (starts_of thread.frames) s.falling));
      sums = totals-pops n thread.frames ∙ ap (drop n) sums ∙ drop-map (sums_of (e ∷ past) t) n calls ∙ ap (map (sums_of (e ∷ past) t)) opens;
    }
