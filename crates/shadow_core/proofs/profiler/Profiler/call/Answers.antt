use Rattle.std.proofs.Common.{◌≡◌, ◌∙◌, ℕ, ◌+◌, ◌<◌, ap, arith, sym, subst, All, refl}
use Rattle.trace_model.specs.declared.event_kinds.Event.TheVariants.{Call}
use Rattle.shadow_stack.specs.Frames.{starts_of}
use Rattle.stamp_renumber.specs.Threads.{frames_of}
use Rattle.stamp_table.specs.Renewal.{bounded_tick}
use Rattle.stamp_table.specs.Stands.{Agrees}
use Rattle.shadow_core.specs.State.{State, table_of_state}
use Rattle.stamp_table.specs.Ticks.{table_after}
use Rattle.shadow_core.proofs.Begun.{begin_fits, called, goes_on, has_it}
use Rattle.shadow_core.proofs.Profiled.{alive_here, lives_here}
use Rattle.shadow_core.proofs.SamePages.{stamped_alike, threads_alike}
use Rattle.shadow_core.proofs.Settled.{whole_still}
use Rattle.shadow_core.proofs.profiler.Profiler.call.Goals as goal

pub has_room-requires : goal.has_room-requires
has_room-requires g c =
    let a = alive_here g.S.Stamp.MAX (Call c.args.tid c.args.entry c.args.back) c.args.tid _ _ c.self.view_is c.requires c.requires.formed.0.0 in
    lives_here _ c.args.tid a

pub begin-requires-clause-lives : goal.begin-requires-clause-lives
begin-requires-clause-lives g c =
    let a = alive_here g.S.Stamp.MAX (Call c.args.tid c.args.entry c.args.back) c.args.tid _ _ c.self.view_is c.requires c.requires.formed.0.0 in
    lives_here _ c.args.tid a

pub begin-requires-clause-above : goal.begin-requires-clause-above
begin-requires-clause-above g c =
    let a = alive_here g.S.Stamp.MAX (Call c.args.tid c.args.entry c.args.back) c.args.tid _ _ c.self.view_is c.requires c.requires.formed.0.0 in
    let on = goes_on g.S.Stamp.MAX (Call c.args.tid c.args.entry c.args.back) c.args.tid _ _ a.was c.self.view_is c.requires a.has (omega (arith, c.if-self-MAX.true, c.MAX.ensures)) in
    let roomy = has_it g.S.Stamp.MAX (Call c.args.tid c.args.entry c.args.back) c.args.tid _ _ a.was c.self.view_is c.requires a.has (omega (arith, c.if-self-MAX.true, c.MAX.ensures)) in
    let number : g.S.Stamp.number_of c.from_number-now.result ≡ c.self.inside.counter + 1 =
    ap g.S.Stamp.number_of c.from_number-now.ensures ∙ g.met.S.Stamp.number_back (c.self.inside.counter + 1) on.within in
    let agrees = subst (λ (k : State). Agrees (table_of_state k) c.requires.past) (sym c.self.view_is) c.requires.now.agrees in
    subst (λ (n : ℕ). All (λ r. r < n) (starts_of (frames_of c.self.inside.threads.threads c.args.tid))) (sym number)
    (begin_fits g.S.Stamp.MAX c.args.tid _ a.was _ _ a.has roomy on c.requires.past agrees)

pub returns-then-has_room-clause-table : goal.returns-then-has_room-clause-table
returns-then-has_room-clause-table g c =
    let a = alive_here g.S.Stamp.MAX (Call c.args.tid c.args.entry c.args.back) c.args.tid _ _ c.self.view_is c.requires c.requires.formed.0.0 in
    let on = goes_on g.S.Stamp.MAX (Call c.args.tid c.args.entry c.args.back) c.args.tid _ _ a.was c.self.view_is c.requires a.has (omega (arith, c.if-self-MAX.true, c.MAX.ensures)) in
    let roomy = has_it g.S.Stamp.MAX (Call c.args.tid c.args.entry c.args.back) c.args.tid _ _ a.was c.self.view_is c.requires a.has (omega (arith, c.if-self-MAX.true, c.MAX.ensures)) in
    let number : g.S.Stamp.number_of c.from_number-now.result ≡ c.self.inside.counter + 1 =
    ap g.S.Stamp.number_of c.from_number-now.ensures ∙ g.met.S.Stamp.number_back (c.self.inside.counter + 1) on.within in
    let begun = c.begin.ensures in
    called g.S.Stamp.MAX c.args.tid _ a.was _ _ a.has roomy on
    c.args.entry c.args.back (g.S.Stamp.number_of c.from_number-now.result) c.begin.new.self number begun.threads begun.list begun.counts
    ∙ ap (λ (k : State). table_after (bounded_tick g.S.Stamp.MAX) (Call c.args.tid c.args.entry c.args.back) (table_of_state k)) c.self.view_is

pub invariant_of-self : goal.invariant_of-self
invariant_of-self g c =
    let low : c.args.self.now.counter < g.S.Stamp.MAX = omega (arith, c.if-self-MAX.true, c.MAX.ensures, ap (λ (k : State). k.counter) c.self.view_is) in
    whole_still g.S.Stamp.MAX (Call c.args.tid c.args.entry c.args.back) _ _ _ c.self.view_is c.requires c.self.invariant low (returns-then-has_room-clause-table g c) refl c.self.invariant.marked

pub returns-then-has_room-clause-pages : goal.returns-then-has_room-clause-pages
returns-then-has_room-clause-pages g c =
    let lives = lives_here _ c.args.tid (alive_here g.S.Stamp.MAX (Call c.args.tid c.args.entry c.args.back) c.args.tid _ _ c.self.view_is c.requires c.requires.formed.0.0) in
    threads_alike c.self.view_is refl refl (stamped_alike c.self.inside.threads.threads c.begin.new.self.threads c.args.tid _ _ lives (λ w. refl) c.begin.ensures.threads)
