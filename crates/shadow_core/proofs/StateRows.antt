-- The rows of the table, by the state's parts.
use Rattle.std.proofs.Common.{◌≡◌, ℕ, ◌+◌, List, [], ◌∷◌, ◌++◌, drop, reverse, Some, None, sym, ap, ◌∙◌}
use Rattle.guest_words.specs.ByThread.{value_of, with_value}
use Rattle.trace_model.specs.WellFormed.{weight_of}
use Rattle.shadow_stack.specs.declared.sums.Sums.{Sums}
use Rattle.shadow_stack.specs.Frames.{Frame, new_frame}
use Rattle.shadow_pages.specs.Pages.{stamp_at}
use Rattle.stamp_renumber.specs.Threads.{Live, Stamped}
use Rattle.stamp_table.specs.Frames.{popped, frames_after_pops}
use Rattle.stamp_table.specs.Table.{Thread, no_thread, changed, stamped, with_frame, thread_after_read, thread_after_ret}
use Rattle.stamp_table.specs.Records.{records, records_of}
use Rattle.shadow_core.specs.State.{State, as_thread, as_threads, table_of_state}
use Rattle.shadow_core.specs.Private.StateRows.{StepsByParts, StartsByParts, CallsByParts, ReadsByParts, WritesByParts, FillsByParts, ReturnsByParts, EndsByParts, FinishesByParts, WeighsByParts}
use Rattle.shadow_core.proofs.Reversed.{pushes_in_front, pops_in_order}
use Rattle.shadow_core.proofs.StateThreads.{threads_change, threads_come, threads_go, value_as}

-- ---- one thread changes
own_change : (s : State) (t : ℕ) (live : Live) (was is : Stamped) (change : Thread → Thread) → value_of s.live.threads t ≡ Some was →
    live.threads ≡ with_value s.live.threads t is → as_thread is ≡ change (as_thread was) → as_threads live.threads ≡ changed t change (as_threads s.live.threads)
own_change s t live was is change found threads same = ap as_threads threads ∙ threads_change s.live.threads t was is change found same

-- the table with other threads
pub with_threads : (s : State) (threads : List (ℕ × Thread)) (other : List (ℕ × Thread)) → threads ≡ other →
    record (table_of_state s) { threads = threads } ≡ record (table_of_state s) { threads = other }
with_threads s threads other same = λ i. record (table_of_state s) { threads = same i }

pub steps_by_parts : StepsByParts
steps_by_parts s t live was is h threads frames pages list counts =
    let change : Thread → Thread = λ thread. record thread { counts = record thread.counts { steps = thread.counts.steps + 1 } } in
    let one : as_thread is ≡ change (as_thread was) =
    λ i. record { frames = reverse (frames i); calls = list i; access = stamp_at (pages i); counts = counts i } in
    with_threads (record s { last = Some t }) _ _ (own_change s t live was is change h.stamps threads one)

pub calls_by_parts : CallsByParts
calls_by_parts s t entry back live was is h threads frames pages list counts =
    let front = ap (reverse {A = Frame}) frames ∙ pushes_in_front was.frames (new_frame s.counter) in
    let one : as_thread is ≡ with_frame s.counter entry (Some back) (as_thread was) =
    λ i. record { frames = front i; calls = list i; access = stamp_at (pages i); counts = counts i } in
    with_threads s _ _ (own_change s t live was is (with_frame s.counter entry (Some back)) h.stamps threads one)

pub reads_by_parts : ReadsByParts
reads_by_parts s t first count live was is h threads frames access list counts =
    let change = thread_after_read first count (table_of_state s) in
    let one : as_thread is ≡ change (as_thread was) = λ i. record { frames = frames i; calls = list i; access = λ l. access l i; counts = counts i } in
    with_threads s _ _ (own_change s t live was is change h.stamps threads one)

pub returns_by_parts : ReturnsByParts
returns_by_parts s t target live was is sums h threads are pages list counts long =
    let change = thread_after_ret t target in
    let frames = sym (pops_in_order was.frames is.frames sums are).1 ∙ ap (λ n. frames_after_pops n (reverse was.frames)) long in
    let calls = list ∙ ap (λ n. drop n was.calls.list) long in
    let one : as_thread is ≡ change (as_thread was) =
    λ i. record { frames = frames i; calls = calls i; access = stamp_at (pages i); counts = counts i } in
    with_threads s _ _ (own_change s t live was is change h.stamps threads one)

-- ---- words
pub writes_by_parts : WritesByParts
writes_by_parts s t first count live was is writes marks found threads frames calls access write mark =
    let change : Thread → Thread = λ thread. record thread { access = stamped s.counter first count thread.access } in
    let one : as_thread is ≡ change (as_thread was) =
    λ i. record { frames = reverse (frames i); calls = (calls i).list; access = λ l. access l i; counts = (calls i).counts } in
    let all = own_change s t live was is change found threads one in
    λ i. record {
      counter = s.counter;
      write = λ l. write l i;
      marks = λ l. mark l i;
      threads = all i;
      last = s.last;
      greatest = s.greatest;
      weight = s.weight;
      renumbered = s.renumbered;
    }

pub fills_by_parts : FillsByParts
fills_by_parts s first count writes marks write mark = λ i. record {
  counter = s.counter;
  write = λ l. write l i;
  marks = λ l. mark l i;
  threads = (table_of_state s).threads;
  last = s.last;
  greatest = s.greatest;
  weight = s.weight;
  renumbered = s.renumbered;
}

-- ---- threads come and go
pub starts_by_parts : StartsByParts
starts_by_parts s t entry live is threads frames pages list counts =
    let one : as_thread is ≡ with_frame s.counter entry None no_thread =
    λ i. record { frames = reverse (frames i); calls = list i; access = stamp_at (pages i); counts = counts i } in
    with_threads (record s { greatest = t }) _ _
    (ap as_threads threads ∙ threads_come s.live.threads t is ∙ (λ i. as_threads s.live.threads ++ (t, one i) ∷ []))

pub ends_by_parts : EndsByParts
ends_by_parts s t live threads = with_threads s _ _ (ap as_threads threads ∙ threads_go s.live.threads t)

-- ---- what is recorded
pub finishes_by_parts : FinishesByParts
finishes_by_parts e s t was sums left h are long =
    ap (records_of e t) (value_as s.live.threads t was h.stamps)
    ∙ (λ i. records t was.calls.counts (popped (sym long i) (reverse was.frames)) was.calls.list)
    ∙ ap (λ (ss : List Sums). records t was.calls.counts ss was.calls.list) (pops_in_order was.frames left sums are).0

pub weighs_by_parts : WeighsByParts
weighs_by_parts e s new same = λ i. record (same i) { weight = s.weight + weight_of e }
