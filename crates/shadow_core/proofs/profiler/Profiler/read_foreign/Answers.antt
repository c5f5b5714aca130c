use Rattle.std.proofs.Common.{◌≡◌, ◌≤◌, ◌∙◌, ◌+◌, ◌^◌, ap, refl, subst, sym, arith}
use Rattle.trace_model.specs.declared.event_kinds.Event.TheVariants.{Read}
use Rattle.shadow_pages.specs.Pages.{HasPlace, stamp_at}
use Rattle.stamp_lanes.specs.Plain.{is_by_kernel, is_by_thread}
use Rattle.stamp_renumber.specs.Threads.{frames_of, pages_of}
use Rattle.shadow_core.specs.State.{State}
use Rattle.shadow_core.proofs.PartReads.{count_few}
use Rattle.shadow_core.proofs.Profiled.{advance_here, alive_here, lives_here}
use Rattle.shadow_core.proofs.ReadEvents.{found_fits, found_lives, may_read_there, read_whole}
use Rattle.shadow_core.proofs.Reading.{lives_changed, not_changed, within_more}
use Rattle.shadow_core.proofs.SamePages.{calls_alike, changed_alike, threads_alike}
use Rattle.shadow_core.specs.Private.Reading.{IsReadWithin}
use Rattle.shadow_core.proofs.Costs.{within_before}
use Rattle.shadow_core.proofs.Settled.{whole_still}
use Rattle.shadow_core.proofs.profiler.Profiler.read_foreign.Goals as goal

pub from_number-now-requires : goal.from_number-now-requires
from_number-now-requires g c = (advance_here g.S.Stamp.MAX (Read c.args.tid c.args.w 1) _ _ c.self.view_is c.requires.may).within

pub read_at-found-requires-clause-lives : goal.read_at-found-requires-clause-lives
read_at-found-requires-clause-lives g c =
    lives_here _ c.args.tid (alive_here g.S.Stamp.MAX (Read c.args.tid c.args.w 1) c.args.tid _ _ c.self.view_is c.requires.may c.requires.may.formed.0.0.0)

pub read_at-found-requires-clause-some : goal.read_at-found-requires-clause-some
read_at-found-requires-clause-some g c =
    let lives = lives_here _ c.args.tid (alive_here g.S.Stamp.MAX (Read c.args.tid c.args.w 1) c.args.tid _ _ c.self.view_is c.requires.may c.requires.may.formed.0.0.0) in
    (may_read_there g.S.Stamp.MAX c.args.tid c.args.w 1 _ _ c.self.inside.threads c.self.view_is c.requires.may (not_changed c.self.inside.threads c.args.tid lives) (λ v. refl)).depth

pub read_at-found-requires-clause-place : goal.read_at-found-requires-clause-place
read_at-found-requires-clause-place g c = subst (λ (k : State). HasPlace (pages_of k.live.threads c.args.tid) c.args.w c.args.access.place) (sym c.self.view_is) c.requires.place

pub read_at-found-requires-clause-sums : goal.read_at-found-requires-clause-sums
read_at-found-requires-clause-sums g c =
    let lives = lives_here _ c.args.tid (alive_here g.S.Stamp.MAX (Read c.args.tid c.args.w 1) c.args.tid _ _ c.self.view_is c.requires.may c.requires.may.formed.0.0.0) in
    within_more (2 ^ 62) (2 ^ 62 + 2 ^ 31) (frames_of c.self.inside.threads.threads c.args.tid) (omega arith)
    (may_read_there g.S.Stamp.MAX c.args.tid c.args.w 1 _ _ c.self.inside.threads c.self.view_is c.requires.may (not_changed c.self.inside.threads c.args.tid lives) (λ v. refl)).sums

pub read_at-found-requires-clause-own : goal.read_at-found-requires-clause-own
read_at-found-requires-clause-own g c = c.requires.own ∙ ap (λ (k : State). stamp_at (pages_of k.live.threads c.args.tid) c.args.w) (sym c.self.view_is)

pub add_found-requires-clause-lives : goal.add_found-requires-clause-lives
add_found-requires-clause-lives g c =
    let lives = lives_here _ c.args.tid (alive_here g.S.Stamp.MAX (Read c.args.tid c.args.w 1) c.args.tid _ _ c.self.view_is c.requires.may c.requires.may.formed.0.0.0) in
    found_lives g.S.Stamp.MAX c.args.tid c.args.w 1 _ _ c.self.inside.threads c.self.view_is c.requires.may (not_changed c.self.inside.threads c.args.tid lives) (λ v. refl)
    c.read_at-found.new.threads c.read_at-found.result.thread c.read_at-found.result.kernel _ c.read_at-found.ensures.read

pub add_found-requires-clause-thread : goal.add_found-requires-clause-thread
add_found-requires-clause-thread g c =
    let t = c.args.tid in
    let own = stamp_at (pages_of c.self.inside.threads.threads t) in
    let write = stamp_at c.self.inside.writes.pages in
    let marks = stamp_at c.self.inside.marks.pages in
    let few : c.read_at-found.result.thread ≤ 1 = omega (arith, c.read_at-found.ensures.thread, count_few is_by_thread own write marks c.args.w 1) in
    let few' : c.read_at-found.result.kernel ≤ 1 = omega (arith, c.read_at-found.ensures.kernel, count_few is_by_kernel own write marks c.args.w 1) in
    let lives = lives_here _ t (alive_here g.S.Stamp.MAX (Read t c.args.w 1) t _ _ c.self.view_is c.requires.may c.requires.may.formed.0.0.0) in
    (found_fits g.S.Stamp.MAX t c.args.w 1 _ _ c.self.inside.threads c.self.view_is c.requires.may (not_changed c.self.inside.threads t lives) (λ v. refl)
    c.read_at-found.new.threads c.read_at-found.result.thread c.read_at-found.result.kernel _ c.read_at-found.ensures.read few few').0

pub add_found-requires-clause-kernel : goal.add_found-requires-clause-kernel
add_found-requires-clause-kernel g c =
    let t = c.args.tid in
    let own = stamp_at (pages_of c.self.inside.threads.threads t) in
    let write = stamp_at c.self.inside.writes.pages in
    let marks = stamp_at c.self.inside.marks.pages in
    let few : c.read_at-found.result.thread ≤ 1 = omega (arith, c.read_at-found.ensures.thread, count_few is_by_thread own write marks c.args.w 1) in
    let few' : c.read_at-found.result.kernel ≤ 1 = omega (arith, c.read_at-found.ensures.kernel, count_few is_by_kernel own write marks c.args.w 1) in
    let lives = lives_here _ t (alive_here g.S.Stamp.MAX (Read t c.args.w 1) t _ _ c.self.view_is c.requires.may c.requires.may.formed.0.0.0) in
    (found_fits g.S.Stamp.MAX t c.args.w 1 _ _ c.self.inside.threads c.self.view_is c.requires.may (not_changed c.self.inside.threads t lives) (λ v. refl)
    c.read_at-found.new.threads c.read_at-found.result.thread c.read_at-found.result.kernel _ c.read_at-found.ensures.read few few').1

pub returns-clause-table : goal.returns-clause-table
returns-clause-table g c =
    let t = c.args.tid in
    let number : g.S.Stamp.number_of c.from_number-now.result ≡ c.self.inside.counter =
    ap g.S.Stamp.number_of c.from_number-now.ensures
    ∙ g.met.S.Stamp.number_back c.self.inside.counter (advance_here g.S.Stamp.MAX (Read t c.args.w 1) _ _ c.self.view_is c.requires.may).within in
    let lives = lives_here _ t (alive_here g.S.Stamp.MAX (Read t c.args.w 1) t _ _ c.self.view_is c.requires.may c.requires.may.formed.0.0.0) in
    read_whole g.S.Stamp.MAX t c.args.w 1 _ _ c.self.inside.threads c.self.view_is c.requires.may (not_changed c.self.inside.threads t lives) (λ v. refl)
    c.read_at-found.new.threads c.read_at-found.result.thread c.read_at-found.result.kernel _ c.read_at-found.ensures.read
    c.add_found.new.self _ number c.read_at-found.ensures.thread c.read_at-found.ensures.kernel c.add_found.ensures (omega arith)

pub returns-clause-pages : goal.returns-clause-pages
returns-clause-pages g c =
    let t = c.args.tid in
    let old = c.self.inside.threads in
    let lives = lives_here _ t (alive_here g.S.Stamp.MAX (Read t c.args.w 1) t _ _ c.self.view_is c.requires.may c.requires.may.formed.0.0.0) in
    let read = c.read_at-found.ensures.read in
    threads_alike c.self.view_is refl refl (λ u w.
    calls_alike c.read_at-found.new.threads c.add_found.new.self t _ (lives_changed old c.read_at-found.new.threads t _ _ lives read.changed) c.add_found.ensures u w
    ∙ changed_alike old c.read_at-found.new.threads t _ _ lives read.changed read.covered u w)

pub returns-clause-cost : goal.returns-clause-cost
returns-clause-cost g c =
    let t = c.args.tid in
    let before = c.args.steps.now in
    subst (λ (k : State). IsReadWithin 9 k.live t c.args.w 1 before c.read_at-found.new.steps) c.self.view_is
    (within_before 1 8 9 c.self.inside.threads t c.args.w 1 before c.tick.new.self c.read_at-found.new.steps c.tick.ensures (omega arith) c.read_at-found.ensures.cost)

pub invariant_of-self : goal.invariant_of-self
invariant_of-self g c =
    whole_still g.S.Stamp.MAX (Read c.args.tid c.args.w 1) _ _ _ c.self.view_is c.requires.may c.self.invariant tt (returns-clause-table g c) refl c.self.invariant.marked
