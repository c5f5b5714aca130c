use Rattle.std.proofs.Common.{true, ◌≡◌, ◌∙◌, ℕ, ◌<◌, ap, sym, subst, All, ◌+◌, ◌*◌, List, length, refl, arith, cond}
use Rattle.trace_model.specs.declared.event_kinds.Event.TheVariants.{Call}
use Rattle.shadow_stack.specs.Frames.{starts_of}
use Rattle.stamp_renumber.specs.Threads.{frames_of, Live, Stamped, pages_of, stamped}
use Rattle.stamp_table.specs.Renewal.{bounded_tick}
use Rattle.stamp_table.specs.Stands.{Agrees}
use Rattle.shadow_core.specs.State.{State, table_of_state}
use Rattle.stamp_table.specs.Ticks.{table_after}
use Rattle.shadow_core.proofs.Begun.{IsRoomy, advance_with_room, begin_fits, begin_lives, begin_room, called, frame_room}
use Rattle.shadow_core.proofs.Profiled.{alive_here, lives_here, on_err}
use Rattle.std.specs.Prelude.{nat_lt, sum_by}
use Rattle.stamp_renumber.specs.Costs.{stamps_in, stamps_of, tick_cost}
use Rattle.shadow_core.proofs.Costs.{stamps_with}
use Rattle.shadow_core.proofs.SamePages.{advanced_alike, seen_same, stamped_alike, threads_alike}
use Rattle.shadow_core.proofs.Settled.{whole_anew, whole_as_before}
use Rattle.shadow_core.proofs.profiler.Profiler.call_anew.Goals as goal

pub reserve-requires : goal.reserve-requires
reserve-requires g c =
    let a = alive_here g.S.Stamp.MAX (Call c.args.tid c.args.entry c.args.back) c.args.tid _ _ c.self.view_is c.requires c.requires.formed.0.0 in
    record { lives = lives_here _ c.args.tid a }

pub returns-in_err-reserve-clause-refused : goal.returns-in_err-reserve-clause-refused
returns-in_err-reserve-clause-refused g c =
    let a = alive_here g.S.Stamp.MAX (Call c.args.tid c.args.entry c.args.back) c.args.tid _ _ c.self.view_is c.requires c.requires.formed.0.0 in
    let e = c.in_err-reserve.ensures in
    on_err c.from_residual.result
    (frame_room _ c.args.tid a.was c.reserve.new.self a.has (record { threads = e.threads; list = e.list; counts = e.counts }) ∙ ap table_of_state c.self.view_is)

pub advance-requires-clause-within : goal.advance-requires-clause-within
advance-requires-clause-within g c =
    let a = alive_here g.S.Stamp.MAX (Call c.args.tid c.args.entry c.args.back) c.args.tid _ _ c.self.view_is c.requires c.requires.formed.0.0 in
    let roomy : IsRoomy c.self.inside.threads c.args.tid c.reserve.new.self = record { threads = c.in_ok-reserve.ensures.threads; list = c.in_ok-reserve.ensures.list; counts = c.in_ok-reserve.ensures.counts } in
    (advance_with_room g.S.Stamp.MAX _ c.args.tid _ _ a.was c.reserve.new.self c.self.view_is c.requires a.has roomy).within

pub advance-requires-clause-room : goal.advance-requires-clause-room
advance-requires-clause-room g c =
    let a = alive_here g.S.Stamp.MAX (Call c.args.tid c.args.entry c.args.back) c.args.tid _ _ c.self.view_is c.requires c.requires.formed.0.0 in
    let roomy : IsRoomy c.self.inside.threads c.args.tid c.reserve.new.self = record { threads = c.in_ok-reserve.ensures.threads; list = c.in_ok-reserve.ensures.list; counts = c.in_ok-reserve.ensures.counts } in
    (advance_with_room g.S.Stamp.MAX _ c.args.tid _ _ a.was c.reserve.new.self c.self.view_is c.requires a.has roomy).room

pub advance-requires-clause-rising : goal.advance-requires-clause-rising
advance-requires-clause-rising g c =
    let a = alive_here g.S.Stamp.MAX (Call c.args.tid c.args.entry c.args.back) c.args.tid _ _ c.self.view_is c.requires c.requires.formed.0.0 in
    let roomy : IsRoomy c.self.inside.threads c.args.tid c.reserve.new.self = record { threads = c.in_ok-reserve.ensures.threads; list = c.in_ok-reserve.ensures.list; counts = c.in_ok-reserve.ensures.counts } in
    (advance_with_room g.S.Stamp.MAX _ c.args.tid _ _ a.was c.reserve.new.self c.self.view_is c.requires a.has roomy).rising

pub advance-requires-clause-few : goal.advance-requires-clause-few
advance-requires-clause-few g c =
    let a = alive_here g.S.Stamp.MAX (Call c.args.tid c.args.entry c.args.back) c.args.tid _ _ c.self.view_is c.requires c.requires.formed.0.0 in
    let roomy : IsRoomy c.self.inside.threads c.args.tid c.reserve.new.self = record { threads = c.in_ok-reserve.ensures.threads; list = c.in_ok-reserve.ensures.list; counts = c.in_ok-reserve.ensures.counts } in
    (advance_with_room g.S.Stamp.MAX _ c.args.tid _ _ a.was c.reserve.new.self c.self.view_is c.requires a.has roomy).few

pub begin-requires-clause-lives : goal.begin-requires-clause-lives
begin-requires-clause-lives g c =
    let a = alive_here g.S.Stamp.MAX (Call c.args.tid c.args.entry c.args.back) c.args.tid _ _ c.self.view_is c.requires c.requires.formed.0.0 in
    let roomy : IsRoomy c.self.inside.threads c.args.tid c.reserve.new.self = record { threads = c.in_ok-reserve.ensures.threads; list = c.in_ok-reserve.ensures.list; counts = c.in_ok-reserve.ensures.counts } in
    begin_lives g.S.Stamp.MAX c.args.tid _ a.was c.reserve.new.self _ a.has roomy c.advance.ensures.advanced

pub begin-requires-clause-above : goal.begin-requires-clause-above
begin-requires-clause-above g c =
    let a = alive_here g.S.Stamp.MAX (Call c.args.tid c.args.entry c.args.back) c.args.tid _ _ c.self.view_is c.requires c.requires.formed.0.0 in
    let roomy : IsRoomy c.self.inside.threads c.args.tid c.reserve.new.self = record { threads = c.in_ok-reserve.ensures.threads; list = c.in_ok-reserve.ensures.list; counts = c.in_ok-reserve.ensures.counts } in
    let number : g.S.Stamp.number_of c.from_number-now.result ≡ c.advance.new.counter =
    ap g.S.Stamp.number_of c.from_number-now.ensures ∙ g.met.S.Stamp.number_back c.advance.new.counter c.advance.ensures.advanced.within in
    let agrees = subst (λ (k : State). Agrees (table_of_state k) c.requires.past) (sym c.self.view_is) c.requires.now.agrees in
    subst (λ (n : ℕ). All (λ r. r < n) (starts_of (frames_of c.advance.new.threads.threads c.args.tid))) (sym number)
    (begin_fits g.S.Stamp.MAX c.args.tid _ a.was c.reserve.new.self _ a.has roomy c.advance.ensures.advanced c.requires.past agrees)

pub begin-requires-clause-room : goal.begin-requires-clause-room
begin-requires-clause-room g c =
    let a = alive_here g.S.Stamp.MAX (Call c.args.tid c.args.entry c.args.back) c.args.tid _ _ c.self.view_is c.requires c.requires.formed.0.0 in
    let roomy : IsRoomy c.self.inside.threads c.args.tid c.reserve.new.self = record { threads = c.in_ok-reserve.ensures.threads; list = c.in_ok-reserve.ensures.list; counts = c.in_ok-reserve.ensures.counts } in
    begin_room g.S.Stamp.MAX c.args.tid _ a.was c.reserve.new.self _ a.has roomy c.advance.ensures.advanced c.in_ok-reserve.ensures.room

pub returns-clause-table : goal.returns-clause-table
returns-clause-table g c =
    let a = alive_here g.S.Stamp.MAX (Call c.args.tid c.args.entry c.args.back) c.args.tid _ _ c.self.view_is c.requires c.requires.formed.0.0 in
    let roomy : IsRoomy c.self.inside.threads c.args.tid c.reserve.new.self = record { threads = c.in_ok-reserve.ensures.threads; list = c.in_ok-reserve.ensures.list; counts = c.in_ok-reserve.ensures.counts } in
    let number : g.S.Stamp.number_of c.from_number-now.result ≡ c.advance.new.counter =
    ap g.S.Stamp.number_of c.from_number-now.ensures ∙ g.met.S.Stamp.number_back c.advance.new.counter c.advance.ensures.advanced.within in
    let begun = c.begin.ensures in
    called g.S.Stamp.MAX c.args.tid _ a.was c.reserve.new.self _ a.has roomy c.advance.ensures.advanced
    c.args.entry c.args.back (g.S.Stamp.number_of c.from_number-now.result) c.begin.new.self number begun.threads begun.list begun.counts
    ∙ ap (λ (k : State). table_after (bounded_tick g.S.Stamp.MAX) (Call c.args.tid c.args.entry c.args.back) (table_of_state k)) c.self.view_is

pub returns-in_err-reserve-clause-pages : goal.returns-in_err-reserve-clause-pages
returns-in_err-reserve-clause-pages g c =
    let lives = lives_here _ c.args.tid (alive_here g.S.Stamp.MAX (Call c.args.tid c.args.entry c.args.back) c.args.tid _ _ c.self.view_is c.requires c.requires.formed.0.0) in
    threads_alike c.self.view_is refl refl (stamped_alike c.self.inside.threads.threads c.reserve.new.self.threads c.args.tid _ _ lives (λ w. refl) c.in_err-reserve.ensures.threads)

pub returns-clause-pages : goal.returns-clause-pages
returns-clause-pages g c =
    let t = c.args.tid in
    let a = alive_here g.S.Stamp.MAX (Call t c.args.entry c.args.back) t _ _ c.self.view_is c.requires c.requires.formed.0.0 in
    let roomy : IsRoomy c.self.inside.threads t c.reserve.new.self = record { threads = c.in_ok-reserve.ensures.threads; list = c.in_ok-reserve.ensures.list; counts = c.in_ok-reserve.ensures.counts } in
    let lives = begin_lives g.S.Stamp.MAX t _ a.was c.reserve.new.self _ a.has roomy c.advance.ensures.advanced in
    seen_same c.self.view_is (record {
      writes = c.advance.ensures.advanced.covered;
      marks = λ w. refl;
      accesses = λ u w.
          stamped_alike c.advance.new.threads.threads c.begin.new.self.threads t _ _ lives (λ v. refl) c.begin.ensures.threads u w
          ∙ advanced_alike g.S.Stamp.MAX true _ _ c.advance.ensures.advanced u w
          ∙ stamped_alike c.self.inside.threads.threads c.reserve.new.self.threads t _ _ (lives_here _ t a) (λ v. refl) roomy.threads u w;
    })

pub returns-clause-cost : goal.returns-clause-cost
returns-clause-cost g c =
    let most = g.S.Stamp.MAX in
    let old = c.self.inside.threads in
    let t = c.args.tid in
    let writes = c.self.inside.writes.pages in
    let new : Live = c.reserve.new.self in
    let counter = c.self.inside.counter in
    let same : stamps_in new writes ≡ stamps_in old writes =
    ap (λ (xs : List (ℕ × Stamped)). sum_by (λ x. stamps_of x.1) xs + 1024 * length writes) c.reserve.ensures.threads
    ∙ ap (λ n. n + 1024 * length writes) (stamps_with old.threads t (stamped new.threads t (frames_of old.threads t) (pages_of old.threads t)) refl) in
    let ticked : tick_cost most counter new writes ≡ tick_cost most c.args.self.now.counter c.args.self.now.live c.args.self.now.writes =
    ap (λ n. cond (nat_lt counter most) 0 n) same ∙ ap (λ (k : State). tick_cost most k.counter k.live k.writes) c.self.view_is in
    omega (arith, c.advance.ensures.cost, ticked, c.count.ensures)

pub invariant_of-self-2 : goal.invariant_of-self-2
invariant_of-self-2 g c =
    whole_anew g.S.Stamp.MAX (Call c.args.tid c.args.entry c.args.back) c.args.self.now _ c.requires (returns-clause-table g c) refl (λ w h. c.self.invariant.marked w (sym (c.advance.ensures.advanced.covered w) ∙ h))

pub invariant_of-self : goal.invariant_of-self
invariant_of-self g c =
    let a = alive_here g.S.Stamp.MAX (Call c.args.tid c.args.entry c.args.back) c.args.tid _ _ c.self.view_is c.requires c.requires.formed.0.0 in
    let e = c.in_err-reserve.ensures in
    whole_as_before _ c.args.self.now _ c.self.view_is c.self.invariant
    (frame_room _ c.args.tid a.was c.reserve.new.self a.has (record { threads = e.threads; list = e.list; counts = e.counts }) ∙ ap table_of_state c.self.view_is) refl c.self.invariant.marked
