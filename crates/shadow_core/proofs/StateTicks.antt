-- A tick of the state is one of its table.
use Rattle.std.proofs.Common.{◌≡◌, ℕ, ◌+◌, ◌*◌, ◌<◌, Bool, true, false, cond, ltb, leb, List, [], ◌∷◌, ◌++◌, length, map, reverse, Some, refl, sym, ap, ◌∙◌, arith}
use Rattle.std.specs.Prelude.{◌==◌, sum_by}
use Rattle.std.proofs.lemmas.Bool.{eq-eqb}
use Rattle.std.proofs.lemmas.Bool.Decides.{nat_tests}
use Rattle.std.proofs.lemmas.List.{length-append, length-map, length-reverse, map-append, reverse-append}
use Rattle.std.proofs.lemmas.List.Sums.{sum_by-append}
use Rattle.std.proofs.lemmas.List.Sorted.{IsPermutation-reverse, sum_by-IsPermutation}
use Rattle.stamp_lanes.specs.Plain as plain
use Rattle.guest_words.specs.ByThread.{IsRising, numbers, value_of}
use Rattle.shadow_stack.specs.Frames.{Frame, starts_of}
use Rattle.shadow_pages.specs.Pages.{Page, stamp_at}
use Rattle.stamp_renumber.specs.Classes.{class}
use Rattle.stamp_renumber.specs.Renumbered.{IsThreadRenumbered}
use Rattle.stamp_renumber.specs.Threads.{Stamped}
use Rattle.stamp_renumber.specs.Threads as parts
use Rattle.stamp_renumber.specs.declared.ticks.Ticked.{Ticked}
use Rattle.stamp_table.specs.Table.{Thread}
use Rattle.stamp_table.specs.Renewal.{all_starts, renewed_thread, renewed, plain_tick}
use Rattle.shadow_core.specs.State.{State, as_thread, as_threads, table_of_state}
use Rattle.shadow_core.specs.Private.StateTicks.{RenewsAll, TicksByParts}

-- ---- the starts of all frames, in two orders
pub map-reverse : {A B : Type 0} (f : A → B) (xs : List A) → reverse (map f xs) ≡ map f (reverse xs)
map-reverse f [] = refl
map-reverse f (x ∷ xs) =
    reverse-append (f x ∷ []) (map f xs)
    ∙ ap (λ ys. ys ++ f x ∷ []) (map-reverse f xs)
    ∙ sym (map-append f (reverse xs) (x ∷ []))
    ∙ ap (map f) (sym (reverse-append (x ∷ []) xs))

sum-starts : (f : ℕ → ℕ) (xs : List (ℕ × Stamped)) → sum_by f (all_starts (as_threads xs)) ≡ sum_by f (parts.all_starts xs)
sum-starts f [] = refl
sum-starts f (x ∷ xs) =
    let own = starts_of x.1.frames in
    let turned : sum_by f (starts_of (reverse x.1.frames)) ≡ sum_by f own =
    ap (sum_by f) (sym (map-reverse (λ (g : Frame). g.start) x.1.frames)) ∙ sum_by-IsPermutation f own (reverse own) (IsPermutation-reverse own) in
    sum_by-append f (starts_of (reverse x.1.frames)) (all_starts (as_threads xs))
    ∙ (λ i. turned i + sum-starts f xs i)
    ∙ sym (sum_by-append f own (parts.all_starts xs))

pub length-starts : (xs : List (ℕ × Stamped)) → length (all_starts (as_threads xs)) ≡ length (parts.all_starts xs)
length-starts [] = refl
length-starts (x ∷ xs) =
    let own = x.1.frames in
    omega (
      arith,
      length-append (starts_of (reverse own)) (all_starts (as_threads xs)),
      length-append (starts_of own) (parts.all_starts xs),
      length-map (reverse own) (λ (g : Frame). g.start),
      length-map own (λ (g : Frame). g.start),
      length-reverse own,
      length-starts xs,
    )

same_classes : (xs : List (ℕ × Stamped)) → class (parts.all_starts xs) ≡ class (all_starts (as_threads xs))
same_classes xs = λ i s. sym (sum-starts (λ start. cond (leb start s) 1 0) xs) i

-- ---- each thread
rising_tail : (n : ℕ) (ns : List ℕ) → IsRising (n ∷ ns) → IsRising ns
rising_tail n [] rising = tt
rising_tail n (m ∷ ns) rising = rising.1

-- a thread behind a number has a greater one
behind : (n : ℕ) (xs : List (ℕ × Stamped)) (t : ℕ) (v : Stamped) → IsRising (n ∷ numbers xs) → value_of xs t ≡ Some v → n < t
behind n [] t v rising here = absurd (cc)
behind n (x ∷ xs) t v rising here = by (x.0 == t) refl here (λ later. behind x.0 xs t v rising.1 later)
  where
    by : (b : Bool) → (x.0 == t) ≡ b → cond b (Some x.1) (value_of xs t) ≡ Some v → (value_of xs t ≡ Some v → x.0 < t) → n < t
    by true is here later = let same : x.0 ≡ t = grind (arith, nat_tests, is) in omega (arith, same, rising.0)
    by false is here later = omega (arith, later here, rising.0)

module _ (starts table_starts : List ℕ) (classes : class starts ≡ class table_starts) (writes : List Page) where
  renewed-as : (was is : Stamped) → IsThreadRenumbered starts writes was is →
      as_thread is ≡ renewed_thread table_starts (stamp_at writes) (as_thread was)
  renewed-as was is h =
      let frames = ap (reverse {A = Frame}) h.frames
      ∙ map-reverse (λ (f : Frame). record f { start = 3 * class starts f.start }) was.frames
      ∙ (λ i. map (λ (f : Frame). record f { start = 3 * classes i f.start }) (reverse was.frames)) in
      let access : (l : ℕ) → stamp_at is.pages l ≡ (renewed_thread table_starts (stamp_at writes) (as_thread was)).access l =
      λ l. h.stamps l
      ∙ (λ i. plain.renewed (record {
        own = stamp_at was.pages l;
        own_class = classes i (stamp_at was.pages l);
        write = stamp_at writes l;
        write_class = classes i (stamp_at writes l);
      })) in
      λ i. record { frames = frames i; calls = (h.calls i).list; access = λ l. access l i; counts = (h.calls i).counts }

  threads-renewed : (old new : List (ℕ × Stamped)) → numbers new ≡ numbers old → IsRising (numbers old) →
      ((t : ℕ) (was is : Stamped) → value_of old t ≡ Some was → value_of new t ≡ Some is → IsThreadRenumbered starts writes was is) →
      as_threads new ≡ map (λ (x : ℕ × Thread). (x.0, renewed_thread table_starts (stamp_at writes) x.1)) (as_threads old)
  threads-renewed [] [] same rising each = refl
  threads-renewed [] (y ∷ new) same rising each = absurd (cc)
  threads-renewed (x ∷ old) [] same rising each = absurd (cc)
  threads-renewed (x ∷ old) (y ∷ new) same rising each =
      let first : y.0 ≡ x.0 = cc in
      let rest : numbers new ≡ numbers old = cc in
      let one : IsThreadRenumbered starts writes x.1 y.1 =
      each x.0 x.1 y.1 (ap (λ b. cond b (Some x.1) (value_of old x.0)) (eq-eqb x.0 x.0 refl)) (ap (λ b. cond b (Some y.1) (value_of new x.0)) (eq-eqb y.0 x.0 first)) in
      let head = renewed-as x.1 y.1 one in
      let tail = threads-renewed old new rest (rising_tail x.0 (numbers old) rising) (λ t was is here there.
      let up : x.0 < t = behind x.0 old t was rising here in
      let other : (x.0 == t) ≡ false = grind (arith, nat_tests, up) in
      each t was is (ap (λ b. cond b (Some x.1) (value_of old t)) other ∙ here)
      (ap (λ n. cond (n == t) (Some y.1) (value_of new t)) first ∙ ap (λ b. cond b (Some y.1) (value_of new t)) other ∙ there)) in
      λ i. (first i, head i) ∷ tail i

pub renews_all : RenewsAll
renews_all s live writes rising all =
    let table = table_of_state s in
    let starts = all_starts table.threads in
    let classes = same_classes s.live.threads in
    let long = sym (length-starts s.live.threads) in
    let threads = threads-renewed (parts.all_starts s.live.threads) starts classes s.writes s.live.threads live.threads all.same rising all.each in
    let write : (l : ℕ) → stamp_at writes l ≡ (renewed table).write l =
    λ l. all.stamps l ∙ (λ i. cond (stamp_at s.writes l == 0) 0 (3 * classes i (stamp_at s.writes l) + 1)) in
    λ i. record {
      counter = 3 * long i + 3;
      write = λ l. write l i;
      marks = stamp_at s.marks;
      threads = threads i;
      last = s.last;
      greatest = s.greatest;
      weight = s.weight;
      renumbered = s.renumbered + 1;
    }

pub ticks_by_parts : TicksByParts
ticks_by_parts most s live writes within rising low high = by (ltb s.counter most) refl
  where
    -- the state with an answer
    answered : Ticked → State
    answered answer = record s { counter = answer.counter; writes = writes; live = live; renumbered = s.renumbered + cond answer.renewed 1 0 }

    by : (b : Bool) → ltb s.counter most ≡ b →
        table_of_state (answered (cond b (record { counter = s.counter + 1; renewed = false }) (record { counter = 3 * length (parts.all_starts s.live.threads) + 3; renewed = true })))
        ≡ cond b (plain_tick (table_of_state s)) (renewed (table_of_state s))
    by true is =
        let under : s.counter < most = grind (arith, nat_tests, is) in
        let same = low under in
        let count : s.renumbered + 0 ≡ s.renumbered = omega arith in
        λ i. table_of_state (record s { counter = s.counter + 1; writes = same.1 i; live = same.0 i; renumbered = count i })
    by false is =
        let top : s.counter ≡ most = grind (arith, nat_tests, is, within) in
        renews_all s live writes rising (high top)
