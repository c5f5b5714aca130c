-- One event of a trace, as a profiler takes it.
use Rattle.std.proofs.Common.{[], cond, ◌≡◌, ℕ, ◌+◌, ◌*◌, ◌<◌, ◌≤◌, Bool, true, false, List, ◌∷◌, ◌++◌, length, map, take, Some, None, refl, sym, ap, subst, ◌∙◌, arith}
use Rattle.std.specs.Prelude.{◌==◌, ◌/◌, ◌%◌, ◌&&◌, not, nat_lt, Option, is_some}
use Rattle.std.specs.Option.{option_map_or}
use Rattle.std.proofs.lemmas.List.{length-map, length-take-le}
use Rattle.std.proofs.lemmas.Bool.Decides.{nat_tests}
use Rattle.guest_words.specs.ByThread.{value_of}
use Rattle.trace_model.specs.declared.event_kinds.Event.{Event}
use Rattle.trace_model.specs.declared.event_kinds.Event.TheVariants.{Step, Read, Write, Fill, Ret, Start}
use Rattle.trace_model.specs.declared.slow_profile.Done.{Done}
use Rattle.std.specs.List.{position_or_len}
use Rattle.trace_model.specs.declared.activations.Activation.{Activation}
use Rattle.trace_model.specs.Activations.{backs, count_ending, count_returned, is_back, open_calls}
use Rattle.trace_model.specs.Depth.{count_begun}
use Rattle.trace_model.specs.Events.{covers}
use Rattle.trace_model.specs.Observing.{MayTake}
use Rattle.trace_model.specs.Profile.{done_of}
use Rattle.shadow_pages.specs.Pages as pages
use Rattle.shadow_pages.specs.Pages.{AreCovered, Page, page_of, stamp_at, stamp_in}
use Rattle.stamp_renumber.specs.Threads.{Stamped, all_starts, calls_of, pages_of}
use Rattle.shadow_core.specs.Applying.{AreInUse, IsTaken, DoesNotAllocate, NeedsNoPage, access_of}
use Rattle.stamp_table.specs.Allows.{is_too_deep}
use Rattle.stamp_table.proofs.Deep.{deep_does_not_fit}
use Rattle.stamp_table.specs.Past.{call_of}
use Rattle.shadow_core.specs.Profiling.{StandsFor}
use Rattle.stamp_table.specs.Records.{finished}
use Rattle.stamp_table.specs.Renewal.{bounded_tick}
use Rattle.stamp_table.specs.Stands.{Stands}
use Rattle.shadow_core.specs.State.{State, as_thread, as_threads, table_of_state}
use Rattle.call_tracker.specs.ThreadCalls.{CountedCall, no_counts}
use Rattle.stamp_table.specs.Table.{Table, Thread, empty_table}
use Rattle.stamp_table.specs.Ticks.{table_after, table_at}
use Rattle.shadow_core.proofs.Profiled.{may_advance, there_too}
use Rattle.stamp_table.proofs.Room.{allows_what_may_follow}
use Rattle.stamp_table.proofs.Runs.{empty_stands, finishes_what_ends, stands_on}
use Rattle.shadow_core.proofs.StateThreads.{own_test}
use Rattle.shadow_core.proofs.StateTold.{frames_are_told}

-- ---- What is too deep.
-- by how many frames there are
pub deep_by_frames : (most : ℕ) (e : Event) (s : State) (past : List Event) → StandsFor most s past →
    is_too_deep most e past ≡ (nat_lt 0 (count_begun e) && nat_lt most (3 * (length (all_starts s.live.threads) + 2)))
deep_by_frames most e s past stands =
    ap (λ n. nat_lt 0 (count_begun e) && nat_lt most (3 * (n + 2))) (sym stands.counted.frames ∙ frames_are_told s)

-- ---- What was taken.
-- an event with a tick records nothing
records_as_before : (tick : Table → Table) (e : Event) (table : Table) → finished e (table_at tick e table) ≡ finished e table
records_as_before tick (Start t entry) table = refl
records_as_before tick _ table = refl

pub taken : (most : ℕ) (e : Event) (past : List Event) (old new : State) (before after : List Done) → MayTake (StandsFor most) old e → StandsFor most old past →
    is_too_deep most e past ≡ false → table_of_state new ≡ table_after (bounded_tick most) e (table_of_state old) → after ≡ before ++ finished e (table_of_state old) →
    IsTaken most e past new before after
taken most e past old new before after may stands shallow made recorded =
    let table = table_of_state old in
    let allowed = (allows_what_may_follow e table may.past may.now.agrees).1 may.formed in
    let formed = (allows_what_may_follow e table past stands.agrees).0 allowed in
    let fits = deep_does_not_fit most e table past stands in
    let within : Rattle.trace_model.specs.Depth.is_within most (e ∷ past) ≡ true = turn (Rattle.trace_model.specs.Depth.is_within most (e ∷ past)) (sym fits ∙ shallow) in
    record {
      stands = subst (λ (k : Table). Stands most k (e ∷ past)) (sym made) (stands_on most e table past formed within stands);
      fits = within;
      recorded =
          recorded
          ∙ ap (λ (ds : List Done). before ++ ds) (sym (records_as_before (bounded_tick most) e table) ∙ finishes_what_ends most e table past formed stands.agrees);
    }
  where
    turn : (b : Bool) → not b ≡ false → b ≡ true
    turn true h = refl
    turn false h = absurd (cc)

-- ---- Words in use are covered.
pub used_covered : (ps : List Page) (w : ℕ) → 0 < stamp_at ps w → pages.covers ps w ≡ true
used_covered ps w used = by (page_of ps (w / 1024)) used
  where
    by : (p : Option Page) → 0 < stamp_in p (w % 1024) → is_some p ≡ true
    by None h = absurd (omega arith)
    by (Some p) h = refl

pub in_range : (first count w : ℕ) → first ≤ w → w < first + count → covers first count w ≡ true
in_range first count w low high = grind arith

pub are_covered : (ps : List Page) (first count : ℕ) → AreInUse (stamp_at ps) first count → AreCovered ps first count
are_covered ps first count used w low high = used_covered ps w (used w (in_range first count w low high))

-- the table's access stamps of a thread are those of its pages
access_as : (live : List (ℕ × Stamped)) (t l : ℕ) →
    option_map_or (λ (thread : Thread). thread.access) (value_of (as_threads live) t) (λ l. 0) l ≡ stamp_at (pages_of live t) l
access_as [] t l = refl
access_as (x ∷ live) t l = by (x.0 == t) (access_as live t l)
  where
    by : (b : Bool) →
        option_map_or (λ (thread : Thread). thread.access) (value_of (as_threads live) t) (λ l. 0) l ≡ stamp_at (pages_of live t) l →
        option_map_or (λ (thread : Thread). thread.access) (cond b (Some (as_thread x.1)) (value_of (as_threads live) t)) (λ l. 0) l
        ≡ stamp_at (option_map_or (λ (s : Stamped). s.pages) (cond b (Some x.1) (value_of live t)) []) l
    by true later = refl
    by false later = later

own_covered : (s : State) (t first count : ℕ) → AreInUse (access_of (table_of_state s) t) first count → AreCovered (pages_of s.live.threads t) first count
own_covered s t first count used w low high =
    used_covered (pages_of s.live.threads t) w (subst (λ n. 0 < n) (access_as s.live.threads t w) (used w (in_range first count w low high)))

module _ (s : State) (e : Event) (t first count : ℕ) where
  pub read_covered : e ≡ Read t first count → NeedsNoPage e (table_of_state s) → AreCovered (pages_of s.live.threads t) first count
  read_covered is needs = own_covered s t first count (subst (λ k. NeedsNoPage k (table_of_state s)) is needs)

  pub own_written : e ≡ Write t first count → NeedsNoPage e (table_of_state s) → AreCovered (pages_of s.live.threads t) first count
  own_written is needs = own_covered s t first count (subst (λ k. NeedsNoPage k (table_of_state s)) is needs).0

  pub all_written : e ≡ Write t first count → NeedsNoPage e (table_of_state s) → AreCovered s.writes first count
  all_written is needs = are_covered s.writes first count (subst (λ k. NeedsNoPage k (table_of_state s)) is needs).1

-- what needs no memory needs no page
pub needs_no_page : (e : Event) (table : Table) (held capacity : ℕ) → DoesNotAllocate e table held capacity → NeedsNoPage e table
needs_no_page (Step t) table held capacity needs = needs
needs_no_page (Ret t target) table held capacity needs = tt
needs_no_page (Read t first count) table held capacity needs = needs
needs_no_page (Write t first count) table held capacity needs = needs
needs_no_page (Fill first count) table held capacity needs = needs
needs_no_page _ table held capacity needs = absurd needs

-- ---- Room for what a return ends.
-- the open calls of a thread of the table
calls_as : (live : List (ℕ × Stamped)) (t : ℕ) (thread : Thread) → value_of (as_threads live) t ≡ Some thread → thread.calls ≡ (calls_of live t).list
calls_as [] t thread is = absurd (cc)
calls_as (x ∷ live) t thread is = by (x.0 == t) is (calls_as live t thread)
  where
    by : (b : Bool) → cond b (Some (as_thread x.1)) (value_of (as_threads live) t) ≡ Some thread →
        (value_of (as_threads live) t ≡ Some thread → thread.calls ≡ (calls_of live t).list) →
        thread.calls ≡ (option_map_or (λ (s : Stamped). s.calls) (cond b (Some x.1) (value_of live t)) (record { list = []; counts = no_counts })).list
    by true found later = let own : as_thread x.1 ≡ thread = cc in sym (ap (λ (th : Thread). th.calls) own)
    by false found later = later found

backs_of : (past : List Event) (t : ℕ) (opens : List Activation) → map (λ (o : CountedCall). o.back) (map (call_of past t) opens) ≡ backs opens
backs_of past t [] = refl
backs_of past t (a ∷ opens) = ap (λ bs. a.back ∷ bs) (backs_of past t opens)

few_returned : (target : ℕ) (bs : List (Option ℕ)) → count_returned target bs ≤ length bs
few_returned target bs = by (position_or_len (is_back target) bs) (length bs)
  where
    by : (k n : ℕ) → cond (nat_lt k n) (k + 1) 0 ≤ n
    by k n = grind (arith, nat_tests)

-- as many are recorded as a return ends calls
pub returned_fits : (most t target held capacity : ℕ) (e : Event) (s : State) → e ≡ Ret t target → MayTake (StandsFor most) s e → DoesNotAllocate e (table_of_state s) held capacity →
    held + count_returned target (map (λ (o : CountedCall). o.back) (calls_of s.live.threads t).list) ≤ capacity
returned_fits most t target held capacity e s is any_may any_needs =
    let may = subst (λ k. MayTake (StandsFor most) s k) is any_may in
    let needs = subst (λ k. DoesNotAllocate k (table_of_state s) held capacity) is any_needs in
    let table = table_of_state s in
    let opens = open_calls may.past t in
    let there = there_too table.threads table.threads refl t (may.now.agrees.live t ∙ may.formed.0.0) in
    let stands = may.now.agrees.threads t there.0 there.1 in
    let list : (calls_of s.live.threads t).list ≡ map (call_of may.past t) opens = sym (calls_as s.live.threads t there.0 there.1) ∙ stands.calls in
    let count : count_returned target (map (λ (o : CountedCall). o.back) (calls_of s.live.threads t).list) ≡ count_returned target (backs opens) =
    ap (λ (cs : List CountedCall). count_returned target (map (λ (o : CountedCall). o.back) cs)) list ∙ ap (count_returned target) (backs_of may.past t opens) in
    let few = few_returned target (backs opens) in
    let n = count_ending (Ret t target) t (backs opens) in
    let own : n ≡ count_returned target (backs opens) = own_test t (count_returned target (backs opens)) 0 in
    let all : length (finished (Ret t target) table) ≡ n =
    ap (λ (ds : List Done). length ds) (finishes_what_ends most (Ret t target) table may.past may.formed may.now.agrees)
    ∙ length-map (take n opens) (done_of may.past t)
    ∙ length-take-le n opens (omega (arith, few, own, length-map opens (λ (a : Activation). a.back))) in
    omega (arith, needs, count, all, own)

-- ---- What an event may ask.
pub frames_fit : (most : ℕ) (e : Event) (s : State) → MayTake (StandsFor most) s e → 3 * length (all_starts s.live.threads) + 3 ≤ most
frames_fit most e s may = (may_advance most e s may).room

-- the table of no event stands for no event
pub empty_stands_for : (most : ℕ) (table : Table) → table ≡ empty_table → 3 ≤ most → Stands most table []
empty_stands_for most table is some = subst (λ (k : Table). Stands most k []) (sym is) (empty_stands most some)
