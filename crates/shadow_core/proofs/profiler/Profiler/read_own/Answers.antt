use Rattle.std.proofs.Common.{◌≡◌, ◌≤◌, ◌∙◌, ◌+◌, ◌^◌, ap, refl, subst, sym, arith}
use Rattle.trace_model.specs.declared.event_kinds.Event.TheVariants.{Read}
use Rattle.shadow_pages.specs.Pages.{HasPlace, stamp_at}
use Rattle.stamp_renumber.specs.Threads.{frames_of, pages_of}
use Rattle.shadow_core.specs.State.{State}
use Rattle.shadow_core.proofs.Profiled.{advance_here, alive_here, lives_here}
use Rattle.shadow_core.proofs.ReadEvents.{may_read_there}
use Rattle.shadow_core.proofs.Reading.{not_changed, within_more}
use Rattle.shadow_core.proofs.Repeated.{read_by_own}
use Rattle.shadow_core.proofs.SamePages.{changed_alike, threads_alike}
use Rattle.shadow_core.specs.Private.Reading.{IsReadWithin}
use Rattle.shadow_core.proofs.Settled.{whole_still}
use Rattle.shadow_core.proofs.profiler.Profiler.read_own.Goals as goal

pub from_number-now-requires : goal.from_number-now-requires
from_number-now-requires g c = (advance_here g.S.Stamp.MAX (Read c.args.tid c.args.w 1) _ _ c.self.view_is c.requires.may).within

pub read_kept-requires-clause-lives : goal.read_kept-requires-clause-lives
read_kept-requires-clause-lives g c =
    lives_here _ c.args.tid (alive_here g.S.Stamp.MAX (Read c.args.tid c.args.w 1) c.args.tid _ _ c.self.view_is c.requires.may c.requires.may.formed.0.0.0)

pub read_kept-requires-clause-some : goal.read_kept-requires-clause-some
read_kept-requires-clause-some g c =
    let lives = lives_here _ c.args.tid (alive_here g.S.Stamp.MAX (Read c.args.tid c.args.w 1) c.args.tid _ _ c.self.view_is c.requires.may c.requires.may.formed.0.0.0) in
    (may_read_there g.S.Stamp.MAX c.args.tid c.args.w 1 _ _ c.self.inside.threads c.self.view_is c.requires.may (not_changed c.self.inside.threads c.args.tid lives) (λ v. refl)).depth

pub read_kept-requires-clause-place : goal.read_kept-requires-clause-place
read_kept-requires-clause-place g c = subst (λ (k : State). HasPlace (pages_of k.live.threads c.args.tid) c.args.w c.args.access.place) (sym c.self.view_is) c.requires.place

pub read_kept-requires-clause-sums : goal.read_kept-requires-clause-sums
read_kept-requires-clause-sums g c =
    let lives = lives_here _ c.args.tid (alive_here g.S.Stamp.MAX (Read c.args.tid c.args.w 1) c.args.tid _ _ c.self.view_is c.requires.may c.requires.may.formed.0.0.0) in
    within_more (2 ^ 62) (2 ^ 62 + 2 ^ 31) (frames_of c.self.inside.threads.threads c.args.tid) (omega arith)
    (may_read_there g.S.Stamp.MAX c.args.tid c.args.w 1 _ _ c.self.inside.threads c.self.view_is c.requires.may (not_changed c.self.inside.threads c.args.tid lives) (λ v. refl)).sums

pub read_kept-requires-clause-own : goal.read_kept-requires-clause-own
read_kept-requires-clause-own g c = c.requires.own ∙ ap (λ (k : State). stamp_at (pages_of k.live.threads c.args.tid) c.args.w) (sym c.self.view_is)

pub returns-clause-table : goal.returns-clause-table
returns-clause-table g c =
    let t = c.args.tid in
    let number : g.S.Stamp.number_of c.from_number-now.result ≡ c.self.inside.counter =
    ap g.S.Stamp.number_of c.from_number-now.ensures
    ∙ g.met.S.Stamp.number_back c.self.inside.counter (advance_here g.S.Stamp.MAX (Read t c.args.w 1) _ _ c.self.view_is c.requires.may).within in
    let kept = subst (λ (k : State). stamp_at k.writes c.args.w ≤ stamp_at (pages_of k.live.threads t) c.args.w) (sym c.self.view_is) c.requires.kept in
    let own = c.requires.own ∙ ap (λ (k : State). stamp_at (pages_of k.live.threads t) c.args.w) (sym c.self.view_is) in
    read_by_own g.S.Stamp.MAX t c.args.w _ _ c.read_kept.new.threads _ _ c.self.view_is c.requires.may
    (c.read_kept.ensures.read (stamp_at c.self.inside.writes.pages) (stamp_at c.self.inside.marks.pages) (omega (arith, kept, own))) number kept (omega arith)

pub returns-clause-pages : goal.returns-clause-pages
returns-clause-pages g c =
    let t = c.args.tid in
    let lives = lives_here _ c.args.tid (alive_here g.S.Stamp.MAX (Read c.args.tid c.args.w 1) c.args.tid _ _ c.self.view_is c.requires.may c.requires.may.formed.0.0.0) in
    let kept = subst (λ (k : State). stamp_at k.writes c.args.w ≤ stamp_at (pages_of k.live.threads t) c.args.w) (sym c.self.view_is) c.requires.kept in
    let own = c.requires.own ∙ ap (λ (k : State). stamp_at (pages_of k.live.threads t) c.args.w) (sym c.self.view_is) in
    let read = c.read_kept.ensures.read (stamp_at c.self.inside.writes.pages) (stamp_at c.self.inside.marks.pages) (omega (arith, kept, own)) in
    threads_alike c.self.view_is refl refl (λ u w. changed_alike c.self.inside.threads c.read_kept.new.threads t _ _ lives read.changed read.covered u w)

pub returns-clause-cost : goal.returns-clause-cost
returns-clause-cost g c =
    subst (λ (k : State). IsReadWithin 4 k.live c.args.tid c.args.w 1 c.args.steps.now c.read_kept.new.steps) c.self.view_is c.read_kept.ensures.cost

pub invariant_of-self : goal.invariant_of-self
invariant_of-self g c =
    whole_still g.S.Stamp.MAX (Read c.args.tid c.args.w 1) _ _ _ c.self.view_is c.requires.may c.self.invariant tt (returns-clause-table g c) refl c.self.invariant.marked
