-- What the running thread accessed at some stamp or later, and no one else wrote since.
use Rattle.std.proofs.Common.{◌≡◌, ℕ, zero, suc, ◌+◌, ◌<◌, ◌≤◌, Bool, true, false, cond, ◌∷◌, List, Option, Some, None, refl, sym, ap, subst, ◌∙◌, arith}
use Rattle.std.specs.Prelude.{◌==◌, is_some, nat_lt}
use Rattle.std.specs.Option.{option_map_or}
use Rattle.std.proofs.lemmas.Bool.Decides.{nat_tests}
use Rattle.guest_words.specs.ByThread.{value_of, with_value}
use Rattle.guest_words.proofs.ThreadTables.{value_of-without}
use Rattle.trace_model.specs.declared.event_kinds.Event.{Event}
use Rattle.trace_model.specs.declared.event_kinds.Event.TheVariants.{Step, Read, Write, Fill, Call, Ret, Start, End}
use Rattle.trace_model.specs.Events as events
use Rattle.trace_model.specs.Observing.{MayTake}
use Rattle.trace_model.specs.WellFormed.{IsWellFormed}
use Rattle.shadow_pages.specs.Pages.{Page, covers, stamp_at}
use Rattle.stamp_renumber.specs.Threads.{pages_of}
use Rattle.stamp_table.specs.Renewal.{bounded_tick, plain_tick, renewed}
use Rattle.stamp_table.specs.Stands.{Agrees}
use Rattle.stamp_table.specs.Table.{Table, Thread, changed, event_after, thread_after_read, thread_after_ret, stamped, with_frame}
use Rattle.stamp_table.specs.Ticks.{table_after, table_after_steps}
use Rattle.stamp_table.proofs.Runs.{agrees_on}
use Rattle.stamp_table.proofs.Threads.{value_of-changed}
use Rattle.shadow_core.specs.Profiling.{IsWhole, StandsFor}
use Rattle.shadow_core.specs.State.{State, as_thread, stepped, table_of_state}
use Rattle.shadow_core.proofs.Accessed.{its_pages}
use Rattle.shadow_core.proofs.Profiled.{alive_here, lives_here, there_too}
use Rattle.shadow_core.proofs.StateThreads.{own_test, value_as}
use Rattle.shadow_core.proofs.StateTold.{life_is_told}
use Rattle.shadow_core.proofs.Stepped.{made, more_steps, one_made}

-- what the thread of the last step accessed at the stamp or later, no one else wrote since
abbrev pub IsSettled : ℕ → Table → Type 0
IsSettled n table = (t : ℕ) (thread : Thread) → table.last ≡ Some t → value_of table.threads t ≡ Some thread → (w : ℕ) → n ≤ thread.access w → table.write w ≤ thread.access w

-- ---- The state's parts and its table.
pub whole : (s : State) → ((w : ℕ) → covers s.writes w ≡ true → covers s.marks w ≡ true) → IsSettled s.settled (table_of_state s) → IsWhole s
whole s marked settled = record {
  marked = marked;
  settled = λ t last lives w high.
      let own = there_too s.live.threads s.live.threads refl t lives in
      let same : pages_of s.live.threads t ≡ own.0.pages = its_pages s.live.threads t own.0 own.1 in
      let low : stamp_at s.writes w ≤ stamp_at own.0.pages w =
      settled t (as_thread own.0) last (value_as s.live.threads t own.0 own.1) w (subst (λ (ps : List Page). s.settled ≤ stamp_at ps w) same high) in
      subst (λ (ps : List Page). stamp_at s.writes w ≤ stamp_at ps w) (sym same) low;
}

pub settled_of : (s : State) → IsWhole s → IsSettled s.settled (table_of_state s)
settled_of s is t thread last here w high =
    let lives : is_some (value_of s.live.threads t) ≡ true = sym (life_is_told s t) ∙ ap is_some here in
    let own = there_too s.live.threads s.live.threads refl t lives in
    let same : pages_of s.live.threads t ≡ own.0.pages = its_pages s.live.threads t own.0 own.1 in
    let there = value_as s.live.threads t own.0 own.1 in
    let one : thread ≡ as_thread own.0 = let both : Some thread ≡ Some (as_thread own.0) = sym here ∙ there in cc in
    let access : thread.access w ≡ stamp_at (pages_of s.live.threads t) w = ap (λ (v : Thread). v.access w) one ∙ ap (λ (ps : List Page). stamp_at ps w) (sym same) in
    let low : stamp_at s.writes w ≤ stamp_at (pages_of s.live.threads t) w = is.settled t last lives w (subst (λ n. s.settled ≤ n) access high) in
    subst (λ n. stamp_at s.writes w ≤ n) (sym access) low

-- ---- One thread changes, which made the last step.
module _ (t : ℕ) (change : Thread → Thread) (old new : Table) (n : ℕ) where
  pub changed_keeps : new.last ≡ Some t → old.last ≡ Some t → new.threads ≡ changed t change old.threads → IsSettled n old →
      ((was : Thread) (w : ℕ) → (n ≤ was.access w → old.write w ≤ was.access w) → n ≤ (change was).access w → new.write w ≤ (change was).access w) →
      IsSettled n new
  changed_keeps runs ran threads settled keeps u thread last here w high =
      let same : u ≡ t = let both : Some u ≡ Some t = sym last ∙ runs in cc in
      let own : value_of (changed t change old.threads) t ≡ Some thread =
      ap (λ xs. value_of xs t) (sym threads) ∙ ap (value_of new.threads) (sym same) ∙ here in
      by (value_of old.threads t) refl own
    where
      by : (o : Option Thread) → value_of old.threads t ≡ o → value_of (changed t change old.threads) t ≡ Some thread → new.write w ≤ thread.access w
      by None none own = absurd (
          let same : value_of (changed t change old.threads) t ≡ value_of old.threads t =
          ap (λ (o : Option Thread). value_of (option_map_or (λ (v : Thread). with_value old.threads t (change v)) o old.threads) t) none in
          let no : Some thread ≡ None = sym own ∙ same ∙ none in
          cc)
      by (Some was) found own =
          let is : value_of (changed t change old.threads) t ≡ Some (change was) =
          value_of-changed old.threads t change was found t ∙ own_test t (Some (change was)) (value_of old.threads t) in
          let one : thread ≡ change was = let both : Some thread ≡ Some (change was) = sym own ∙ is in cc in
          let low = keeps was w (settled t was ran found w) (subst (λ (v : Thread). n ≤ v.access w) one high) in
          subst (λ (v : Thread). new.write w ≤ v.access w) (sym one) low

-- where words get the counter as their stamp
stamped_keeps : (n counter access write : ℕ) (b : Bool) → write ≤ counter → (n ≤ access → write ≤ access) → n ≤ cond b counter access → write ≤ cond b counter access
stamped_keeps n counter access write true low before high = low
stamped_keeps n counter access write false low before high = before high

written_keeps : (n counter access write : ℕ) (b : Bool) → (n ≤ access → write ≤ access) → n ≤ cond b counter access → cond b counter write ≤ cond b counter access
written_keeps n counter access write true before high = omega arith
written_keeps n counter access write false before high = before high

-- ---- Steps, a call and a return of the thread that made the last step.
pub steps_keep : (tick : Table → Table) (t k n : ℕ) (table : Table) → table.last ≡ Some t → IsSettled n table →
    IsSettled n (table_after_steps tick t k table) × ((table_after_steps tick t k table).last ≡ Some t)
steps_keep tick t zero n table runs settled = (settled, runs)
steps_keep tick t (suc k) n table runs settled =
    let before = steps_keep tick t k n table runs settled in
    let mid = table_after_steps tick t k table in
    let one : table_after tick (Step t) mid ≡ made t 1 mid = one_made tick t mid before.1 in (
      subst (λ (x : Table). IsSettled n x) (sym one) (changed_keeps t (more_steps 1) mid (made t 1 mid) n refl before.1 refl before.0 (λ was w still high. still high)),
      ap (λ (x : Table). x.last) one,
    )

pub call_keeps : (most t entry back n : ℕ) (table : Table) → table.last ≡ Some t → table.counter < most → IsSettled n table →
    IsSettled n (table_after (bounded_tick most) (Call t entry back) table)
call_keeps most t entry back n table runs low settled =
    let under : nat_lt table.counter most ≡ true = grind (arith, nat_tests, low) in
    let new = event_after (Call t entry back) (plain_tick table) in
    subst (λ (b : Bool). IsSettled n (event_after (Call t entry back) (cond b (plain_tick table) (renewed table)))) (sym under)
    (changed_keeps t (with_frame (table.counter + 1) entry (Some back)) table new n runs runs refl settled (λ was w still high. still high))

pub return_keeps : (tick : Table → Table) (t target n : ℕ) (table : Table) → table.last ≡ Some t → IsSettled n table → IsSettled n (table_after tick (Ret t target) table)
return_keeps tick t target n table runs settled =
    changed_keeps t (thread_after_ret t target) table (event_after (Ret t target) table) n runs runs refl settled (λ was w still high. still high)

-- and the end of a thread
end_keeps : (tick : Table → Table) (t n : ℕ) (table : Table) → IsSettled n table → IsSettled n (table_after tick (End t) table)
end_keeps tick t n table settled u thread last here w high = by (t == u) (sym (value_of-without table.threads t u) ∙ here)
  where
    by : (b : Bool) → cond b None (value_of table.threads u) ≡ Some thread → table.write w ≤ thread.access w
    by true found = absurd (cc)
    by false found = settled u thread last found w high

-- ---- An event that keeps the stamp.
abbrev pub IsStill : ℕ → Event → Table → Type 0
IsStill most (Read t first count) table = Unit {0}
IsStill most (Write t first count) table = Unit {0}
IsStill most (Ret t target) table = Unit {0}
IsStill most (End t) table = Unit {0}
IsStill most (Call t entry back) table = table.counter < most
IsStill most (Step t) table = ⊥
IsStill most (Fill first count) table = ⊥
IsStill most (Start t entry) table = ⊥

event_keeps : (most : ℕ) (e : Event) (table : Table) (past : List Event) (n : ℕ) → IsWellFormed (e ∷ past) → Agrees table past → IsStill most e table → IsSettled n table →
    IsSettled n (table_after (bounded_tick most) e table)
event_keeps most (Read t first count) table past n formed agrees still settled =
    let runs : table.last ≡ Some t = agrees.last ∙ formed.0.0.1 in
    changed_keeps t (thread_after_read first count table) table (event_after (Read t first count) table) n runs runs refl settled
    (λ was w before high. stamped_keeps n table.counter (was.access w) (table.write w) (events.covers first count w) (agrees.writes w) before high)
event_keeps most (Write t first count) table past n formed agrees still settled =
    let runs : table.last ≡ Some t = agrees.last ∙ formed.0.0.1 in
    changed_keeps t (λ thread. record thread { access = stamped table.counter first count thread.access }) table (event_after (Write t first count) table) n runs runs refl settled
    (λ was w before high. written_keeps n table.counter (was.access w) (table.write w) (events.covers first count w) before high)
event_keeps most (Ret t target) table past n formed agrees still settled = return_keeps (bounded_tick most) t target n table (agrees.last ∙ formed.0.1) settled
event_keeps most (Call t entry back) table past n formed agrees still settled = call_keeps most t entry back n table (agrees.last ∙ formed.0.1) still settled
event_keeps most (End t) table past n formed agrees still settled = end_keeps (bounded_tick most) t n table settled
event_keeps most (Step t) table past n formed agrees still settled = absurd still
event_keeps most (Fill first count) table past n formed agrees still settled = absurd still
event_keeps most (Start t entry) table past n formed agrees still settled = absurd still

-- ---- What the code keeps.
-- with no event
pub settled_as_before : (s now new : State) → s ≡ now → IsWhole s → table_of_state new ≡ table_of_state now → IsSettled s.settled (table_of_state new)
settled_as_before s now new is was same = subst (λ (x : Table). IsSettled s.settled x) (ap table_of_state is ∙ sym same) (settled_of s was)

-- after an event that keeps the stamp
pub settled_still : (most : ℕ) (e : Event) (s now new : State) → s ≡ now → MayTake (StandsFor most) now e → IsWhole s → IsStill most e (table_of_state now) →
    table_of_state new ≡ table_after (bounded_tick most) e (table_of_state now) → IsSettled s.settled (table_of_state new)
settled_still most e s now new is may was still made =
    subst (λ (x : Table). IsSettled s.settled x) (sym made)
    (event_keeps most e (table_of_state now) may.past s.settled may.formed may.now.agrees still (subst (λ (k : State). IsSettled s.settled (table_of_state k)) is (settled_of s was)))

-- after any event, where the stamp is the counter
pub settled_anew : (most : ℕ) (e : Event) (now new : State) → MayTake (StandsFor most) now e →
    table_of_state new ≡ table_after (bounded_tick most) e (table_of_state now) → IsSettled new.counter (table_of_state new)
settled_anew most e now new may made =
    let agrees = subst (λ (x : Table). Agrees x (e ∷ may.past)) (sym made) (agrees_on most e (table_of_state now) may.past may.formed may.now.agrees) in
    λ t thread last here w high. omega (arith, agrees.writes w, high)

-- each word that has a write stamp has a mark
abbrev pub IsMarked : State → Type 0
IsMarked s = (w : ℕ) → covers s.writes w ≡ true → covers s.marks w ≡ true

pub whole_as_before : (s now new : State) → s ≡ now → IsWhole s → table_of_state new ≡ table_of_state now → new.settled ≡ s.settled → IsMarked new → IsWhole new
whole_as_before s now new is was same kept marked =
    whole new marked (subst (λ n. IsSettled n (table_of_state new)) (sym kept) (settled_as_before s now new is was same))

pub whole_still : (most : ℕ) (e : Event) (s now new : State) → s ≡ now → MayTake (StandsFor most) now e → IsWhole s → IsStill most e (table_of_state now) →
    table_of_state new ≡ table_after (bounded_tick most) e (table_of_state now) → new.settled ≡ s.settled → IsMarked new → IsWhole new
whole_still most e s now new is may was still made kept marked =
    whole new marked (subst (λ n. IsSettled n (table_of_state new)) (sym kept) (settled_still most e s now new is may was still made))

pub whole_anew : (most : ℕ) (e : Event) (now new : State) → MayTake (StandsFor most) now e →
    table_of_state new ≡ table_after (bounded_tick most) e (table_of_state now) → new.settled ≡ new.counter → IsMarked new → IsWhole new
whole_anew most e now new may made kept marked =
    whole new marked (subst (λ n. IsSettled n (table_of_state new)) (sym kept) (settled_anew most e now new may made))

-- where the running thread accessed the word at the stamp or later, its latest write is no later
pub own_kept : (most t w : ℕ) (s now : State) → s ≡ now → (may : MayTake (StandsFor most) now (Read t w 1)) → IsWhole s → s.settled ≤ stamp_at (pages_of s.live.threads t) w →
    stamp_at now.writes w ≤ stamp_at (pages_of now.live.threads t) w
own_kept most t w s now is may was high =
    let runs : s.last ≡ Some t = ap (λ (k : State). k.last) is ∙ may.now.agrees.last ∙ may.formed.0.0.1 in
    let lives : is_some (value_of s.live.threads t) ≡ true = lives_here s t (alive_here most (Read t w 1) t s now is may may.formed.0.0.0) in
    subst (λ (k : State). stamp_at k.writes w ≤ stamp_at (pages_of k.live.threads t) w) is (was.settled t runs lives w high)

-- after steps of the thread that made the last one
pub whole_steps : (most t k : ℕ) (s now new : State) → s ≡ now → now.last ≡ Some t → IsWhole s →
    table_of_state new ≡ table_after_steps (bounded_tick most) t k (table_of_state now) → new.settled ≡ s.settled → IsMarked new → IsWhole new
whole_steps most t k s now new is runs was next kept marked =
    let before : IsSettled s.settled (table_of_state now) = subst (λ (x : State). IsSettled s.settled (table_of_state x)) is (settled_of s was) in
    let after : IsSettled s.settled (table_of_state new) =
    subst (λ (x : Table). IsSettled s.settled x) (sym next) (steps_keep (bounded_tick most) t k s.settled (table_of_state now) runs before).0 in
    whole new marked (subst (λ n. IsSettled n (table_of_state new)) (sym kept) after)

-- ---- Steps, and then an event, of the thread that made the last step.
module _ (most t k : ℕ) (s new : State) (runs : s.last ≡ Some t) (was : IsWhole s)
    (steps : table_of_state (stepped t k s) ≡ table_after_steps (bounded_tick most) t k (table_of_state s)) (kept : new.settled ≡ s.settled) (marked : IsMarked new) where
  between : IsSettled s.settled (table_of_state (stepped t k s))
  between = subst (λ (x : Table). IsSettled s.settled x) (sym steps) (steps_keep (bounded_tick most) t k s.settled (table_of_state s) runs (settled_of s was)).0

  pub whole_call : (entry back : ℕ) → s.counter < most → table_of_state new ≡ table_after (bounded_tick most) (Call t entry back) (table_of_state (stepped t k s)) → IsWhole new
  whole_call entry back low next =
      whole new marked (subst (λ n. IsSettled n (table_of_state new)) (sym kept)
      (subst (λ (x : Table). IsSettled s.settled x) (sym next) (call_keeps most t entry back s.settled (table_of_state (stepped t k s)) runs low between)))

  pub whole_return : (target : ℕ) → table_of_state new ≡ table_after (bounded_tick most) (Ret t target) (table_of_state (stepped t k s)) → IsWhole new
  whole_return target next =
      whole new marked (subst (λ n. IsSettled n (table_of_state new)) (sym kept)
      (subst (λ (x : Table). IsSettled s.settled x) (sym next) (return_keeps (bounded_tick most) t target s.settled (table_of_state (stepped t k s)) runs between)))
