-- Steps of a thread in a row.
use Rattle.std.proofs.Common.{◌≡◌, ℕ, zero, suc, ◌+◌, ◌<◌, ◌≤◌, ◌^◌, Bool, true, false, cond, List, [], ◌∷◌, Option, Some, None, refl, sym, ap, subst, ◌∙◌, arith}
use Rattle.std.specs.Prelude.{◌==◌, reverse}
use Rattle.std.specs.Option.{option_map_or}
use Rattle.guest_words.specs.ByThread.{value_of, with_value}
use Rattle.trace_model.specs.declared.event_kinds.Event.{Event}
use Rattle.trace_model.specs.declared.event_kinds.Event.TheVariants.{Step}
use Rattle.trace_model.specs.Depth.{is_within}
use Rattle.trace_model.specs.Observing.{MayStepBy, MayTake, with_steps}
use Rattle.trace_model.specs.WellFormed.{IsWellFormed, weight}
use Rattle.trace_model.proofs.Cut.{steps_within}
use Rattle.trace_model.proofs.Feeding.{steps_formed}
use Rattle.call_tracker.specs.ThreadCalls.{Calls}
use Rattle.shadow_pages.specs.Pages.{stamp_at}
use Rattle.stamp_renumber.specs.Counted.{steps_added, with_calls}
use Rattle.stamp_renumber.specs.Threads.{Live, Stamped, calls_of, frames_of, pages_of, spare_of}
use Rattle.shadow_core.specs.Profiling.{StandsFor}
use Rattle.stamp_table.specs.Renewal.{bounded_tick}
use Rattle.stamp_table.specs.Stands.{Stands}
use Rattle.shadow_core.specs.State.{State, as_thread, table_of_state}
use Rattle.stamp_table.specs.Table.{Table, Thread, changed, event_after}
use Rattle.stamp_table.specs.Ticks.{is_switch, table_after, table_after_steps}
use Rattle.shadow_core.proofs.Accessed.{its_calls, its_frames, its_pages}
use Rattle.shadow_core.proofs.Profiled.{alive_for_step, no_switch}
use Rattle.stamp_table.proofs.Room.{allows_what_may_follow, counts_stay_within}
use Rattle.stamp_table.proofs.Runs.{stands_on}
use Rattle.shadow_core.proofs.StateThreads.{threads_change}
use Rattle.shadow_core.proofs.StateTold.{thread_is_told}

-- ---- One thread is changed, and changed again.
pub value_there : {T : Type 0} (xs : List (ℕ × T)) (t : ℕ) (v w : T) → value_of xs t ≡ Some w → value_of (with_value xs t v) t ≡ Some v
value_there [] t v w here = absurd (cc)
value_there (x ∷ xs) t v w here = by (x.0 == t) refl here (λ later. value_there xs t v w later)
  where
    by : (b : Bool) → (x.0 == t) ≡ b → cond b (Some x.1) (value_of xs t) ≡ Some w → (value_of xs t ≡ Some w → value_of (with_value xs t v) t ≡ Some v) →
        value_of (cond b ((x.0, v) ∷ xs) (x ∷ with_value xs t v)) t ≡ Some v
    by true is here later = ap (λ (b : Bool). cond b (Some v) (value_of xs t)) is
    by false is here later = ap (λ (b : Bool). cond b (Some x.1) (value_of (with_value xs t v) t)) is ∙ later here

with_twice : {T : Type 0} (xs : List (ℕ × T)) (t : ℕ) (v w : T) → with_value (with_value xs t v) t w ≡ with_value xs t w
with_twice [] t v w = refl
with_twice (x ∷ xs) t v w = by (x.0 == t) refl (with_twice xs t v w)
  where
    by : (b : Bool) → (x.0 == t) ≡ b → with_value (with_value xs t v) t w ≡ with_value xs t w →
        with_value (cond b ((x.0, v) ∷ xs) (x ∷ with_value xs t v)) t w ≡ cond b ((x.0, w) ∷ xs) (x ∷ with_value xs t w)
    by true is rest = ap (λ (b : Bool). cond b ((x.0, w) ∷ xs) ((x.0, v) ∷ with_value xs t w)) is
    by false is rest = ap (λ (b : Bool). cond b ((x.0, w) ∷ with_value xs t v) (x ∷ with_value (with_value xs t v) t w)) is ∙ ap (λ ys. x ∷ ys) rest

changed_twice : (xs : List (ℕ × Thread)) (t : ℕ) (f g : Thread → Thread) → changed t g (changed t f xs) ≡ changed t (λ thread. g (f thread)) xs
changed_twice xs t f g = by (value_of xs t) refl
  where
    by : (o : Option Thread) → value_of xs t ≡ o →
        changed t g (option_map_or (λ thread. with_value xs t (f thread)) o xs) ≡ option_map_or (λ thread. with_value xs t (g (f thread))) o xs
    by None is = ap (λ (o : Option Thread). option_map_or (λ thread. with_value xs t (g thread)) o xs) is
    by (Some thread) is =
        ap (λ (o : Option Thread). option_map_or (λ (now : Thread). with_value (with_value xs t (f thread)) t (g now)) o (with_value xs t (f thread))) (value_there xs t (f thread) thread is)
        ∙ with_twice xs t (f thread) (g (f thread))

-- ---- Steps of the thread that made the last one.
abbrev pub more_steps : ℕ → Thread → Thread
more_steps n thread = record thread { counts = record thread.counts { steps = thread.counts.steps + n } }

abbrev pub made : ℕ → ℕ → Table → Table
made t n table = record table { threads = changed t (more_steps n) table.threads; last = Some t; weight = table.weight + n }

pub one_made : (tick : Table → Table) (t : ℕ) (table : Table) → table.last ≡ Some t → table_after tick (Step t) table ≡ made t 1 table
one_made tick t table runs =
    ap (λ (b : Bool). event_after (Step t) (cond b (tick table) table)) (ap (λ last. is_switch last t) runs ∙ no_switch t)

all_made : (tick : Table → Table) (t n : ℕ) (table : Table) → table.last ≡ Some t → table_after_steps tick t (suc n) table ≡ made t (suc n) table
all_made tick t zero table runs = one_made tick t table runs
all_made tick t (suc n) table runs =
    ap (table_after tick (Step t)) (all_made tick t n table runs)
    ∙ one_made tick t (made t (suc n) table) refl
    ∙ ap (λ threads. record table { threads = threads; last = Some t; weight = table.weight + suc n + 1 }) (changed_twice table.threads t (more_steps (suc n)) (more_steps 1))
    ∙ (λ i. record table {
      threads = changed t (λ thread. record thread { counts = record thread.counts { steps = steps thread.counts.steps i } }) table.threads;
      last = Some t;
      weight = steps table.weight i;
    })
  where
    steps : (k : ℕ) → k + suc n + 1 ≡ k + suc (suc n)
    steps k = omega arith

-- the last of them is the first of the others
steps_turn : (tick : Table → Table) (t n : ℕ) (table : Table) → table_after_steps tick t n (table_after tick (Step t) table) ≡ table_after_steps tick t (suc n) table
steps_turn tick t zero table = refl
steps_turn tick t (suc n) table = ap (table_after tick (Step t)) (steps_turn tick t n table)

past_turn : (t n : ℕ) (past : List Event) → with_steps t n (Step t ∷ past) ≡ with_steps t (suc n) past
past_turn t zero past = refl
past_turn t (suc n) past = ap (λ p. Step t ∷ p) (past_turn t n past)

-- ---- The table stands for the past with the steps.
module _ (most t count : ℕ) (table : Table) (own : List Event) (stood : Stands most table own) (formed : IsWellFormed (with_steps t count own)) where
  abbrev after : ℕ → Table
  after n = table_after_steps (bounded_tick most) t n table

  within : (past : List Event) (n : ℕ) → Stands most (after n) (with_steps t n past) → is_within most (with_steps t (suc n) past) ≡ true
  within past n stands = steps_within most t (with_steps t n past) stands.within

  own_stands : (n : ℕ) → n ≤ count → Stands most (after n) (with_steps t n own)
  own_stands zero low = stood
  own_stands (suc n) low =
      let before = own_stands n (omega (arith, low)) in
      stands_on most (Step t) (after n) (with_steps t n own) (steps_formed t count n own (omega (arith, low)) formed) (within own n before) before

  pub stands_by : (past : List Event) → Stands most table past → (n : ℕ) → n ≤ count → Stands most (after n) (with_steps t n past)
  stands_by past stands zero low = stands
  stands_by past stands (suc n) low =
      let mine = own_stands n (omega (arith, low)) in
      let before = stands_by past stands n (omega (arith, low)) in
      let allowed = (allows_what_may_follow (Step t) (after n) (with_steps t n own) mine.agrees).1 (steps_formed t count n own (omega (arith, low)) formed) in
      stands_on most (Step t) (after n) (with_steps t n past) ((allows_what_may_follow (Step t) (after n) (with_steps t n past) before.agrees).0 allowed) (within past n before) before

-- ---- What the code makes.
pub may_step_once : (most t n : ℕ) (s : State) → MayStepBy (StandsFor most) (is_within most) s t n → 1 ≤ n → MayTake (StandsFor most) s (Step t)
may_step_once most t n s may some = record { past = may.past; now = may.now; formed = steps_formed t n 0 may.past some may.formed }

heavier : (t n : ℕ) (past : List Event) → weight (with_steps t n past) ≡ weight past + n
heavier t zero past = omega arith
heavier t (suc n) past = omega (arith, heavier t n past)

light : (t n : ℕ) (past : List Event) → 1 ≤ n → IsWellFormed (with_steps t n past) → weight past + n < 2 ^ 62
light t zero past some formed = absurd (omega (arith, some))
light t (suc n) past some formed = omega (arith, heavier t (suc n) past, formed.1)

pub steps_fit : (most t n : ℕ) (s now : State) → s ≡ now → MayStepBy (StandsFor most) (is_within most) now t n → 1 ≤ n →
    ((calls_of s.live.threads t).counts.steps + n < 2 ^ 64) × (s.weight + n < 2 ^ 62)
steps_fit most t n s now is any some =
    let may = subst (λ (k : State). MayStepBy (StandsFor most) (is_within most) k t n) (sym is) any in
    let a = alive_for_step most t s (may_step_once most t n s may some) in
    let counts = counts_stay_within (table_of_state s) may.past t (as_thread a.was) may.now.agrees (thread_is_told s t a.was a.has) in
    let own : calls_of s.live.threads t ≡ a.was.calls = its_calls s.live.threads t a.was a.has.stamps in
    let few = light t n may.past some may.formed in
    (omega (arith, few, counts.0, ap (λ (k : Calls). k.counts.steps) own), omega (arith, few, may.now.agrees.weight))

pub steps_made : (most t n : ℕ) (s now : State) (live : Live) (weight : ℕ) → s ≡ now → MayStepBy (StandsFor most) (is_within most) now t n → 1 ≤ n →
    now.last ≡ Some t → live ≡ with_calls s.live t (steps_added n (calls_of s.live.threads t)) → weight ≡ s.weight + n →
    table_of_state (record s { live = live; weight = weight }) ≡ table_after_steps (bounded_tick most) t n (table_of_state now)
steps_made most t zero s now live heavy is any some runs counted weighed = absurd (omega (arith, some))
steps_made most t (suc n) s now live heavy is any some runs counted weighed =
    let may = subst (λ (k : State). MayStepBy (StandsFor most) (is_within most) k t (suc n)) (sym is) any in
    let a = alive_for_step most t s (may_step_once most t (suc n) s may some) in
    let threads = s.live.threads in
    let was = a.was in
    let here = a.has.stamps in
    let last : s.last ≡ Some t = ap (λ (k : State). k.last) is ∙ runs in
    let after = steps_added (suc n) (calls_of threads t) in
    let grown : after ≡ steps_added (suc n) was.calls = ap (steps_added (suc n)) (its_calls threads t was here) in
    let new : Stamped = record { frames = frames_of threads t; spare = spare_of threads t; pages = pages_of threads t; calls = after } in
    let one : as_thread new ≡ more_steps (suc n) (as_thread was) =
    λ i. record { frames = reverse (its_frames threads t was here i); calls = (grown i).list; access = stamp_at (its_pages threads t was here i); counts = (grown i).counts } in
    let changes = threads_change threads t was new (more_steps (suc n)) here one in
    ap (λ (l : Live). table_of_state (record s { live = l; weight = heavy })) counted
    ∙ (λ i. record (table_of_state s) { threads = changes i; last = last i; weight = weighed i })
    ∙ sym (all_made (bounded_tick most) t n (table_of_state s) last)
    ∙ ap (λ (k : State). table_after_steps (bounded_tick most) t (suc n) (table_of_state k)) is

-- after the first step, which another thread's came before, the others
pub may_step_on : (most t n : ℕ) (s new : State) → MayStepBy (StandsFor most) (is_within most) s t (suc n) →
    table_of_state new ≡ table_after (bounded_tick most) (Step t) (table_of_state s) → MayStepBy (StandsFor most) (is_within most) new t n
may_step_on most t n s new may is =
    let stands = stands_by most t (suc n) (table_of_state s) may.past may.now may.formed may.past may.now 1 (omega arith) in
    record {
      past = Step t ∷ may.past;
      now = subst (λ (k : Table). Stands most k (Step t ∷ may.past)) (sym is) stands;
      fitting = stands.within;
      formed = subst IsWellFormed (sym (past_turn t n may.past)) may.formed;
    }

pub turned_steps : (most t n : ℕ) (s new last : State) → table_of_state new ≡ table_after (bounded_tick most) (Step t) (table_of_state s) →
    table_of_state last ≡ table_after_steps (bounded_tick most) t n (table_of_state new) →
    table_of_state last ≡ table_after_steps (bounded_tick most) t (suc n) (table_of_state s)
turned_steps most t n s new last first others =
    others ∙ ap (table_after_steps (bounded_tick most) t n) first ∙ steps_turn (bounded_tick most) t n (table_of_state s)

pub by_steps : (most t n : ℕ) (s new : State) → MayStepBy (StandsFor most) (is_within most) s t n →
    table_of_state new ≡ table_after_steps (bounded_tick most) t n (table_of_state s) →
    (past : List Event) → StandsFor most s past → StandsFor most new (with_steps t n past)
by_steps most t n s new may is past stands =
    subst (λ (k : Table). Stands most k (with_steps t n past)) (sym is)
    (stands_by most t n (table_of_state s) may.past may.now may.formed past stands n (omega arith))
