use Rattle.std.proofs.Common.{◌≡◌, ◌∙◌, ap, arith, refl, sym}
use Rattle.shadow_pages.specs.Pages.{stamp_at}
use Rattle.stamp_renumber.specs.Threads.{pages_of}
use Rattle.shadow_core.specs.State.{State}
use Rattle.shadow_core.proofs.Repeated.{read_again}
use Rattle.shadow_core.proofs.Settled.{own_kept}
use Rattle.shadow_core.proofs.profiler.Profiler.read_known.Goals as goal

pub returns-then-number-self-clause-table : goal.returns-then-number-self-clause-table
returns-then-number-self-clause-table g c =
    let t = c.args.tid in
    let own : g.S.Stamp.number_of c.args.access.stamp ≡ stamp_at (pages_of c.self.inside.threads.threads t) c.args.w =
    c.requires.own ∙ ap (λ (k : State). stamp_at (pages_of k.live.threads t) c.args.w) (sym c.self.view_is) in
    read_again g.S.Stamp.MAX t c.args.w 1 _ _ _ c.self.view_is c.requires.may refl
    (omega (arith, own, c.number.ensures.value, c.if-number-self.true)) (omega arith)

pub read_own-requires-clause-kept : goal.read_own-requires-clause-kept
read_own-requires-clause-kept g c =
    let t = c.args.tid in
    let own : g.S.Stamp.number_of c.args.access.stamp ≡ stamp_at (pages_of c.self.inside.threads.threads t) c.args.w =
    c.requires.own ∙ ap (λ (k : State). stamp_at (pages_of k.live.threads t) c.args.w) (sym c.self.view_is) in
    own_kept g.S.Stamp.MAX t c.args.w _ c.args.self.now c.self.view_is c.requires.may c.self.invariant (omega (arith, own, c.number-else-number-self.ensures.value, c.if-number-self-2.true))
