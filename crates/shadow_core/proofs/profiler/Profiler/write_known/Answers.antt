use Rattle.std.proofs.Common.{◌≡◌, ◌∙◌, ap, arith, refl, sym}
use Rattle.shadow_pages.specs.Pages.{stamp_at}
use Rattle.stamp_renumber.specs.Threads.{pages_of}
use Rattle.shadow_core.specs.State.{State}
use Rattle.shadow_core.proofs.Repeated.{write_again}
use Rattle.shadow_core.proofs.profiler.Profiler.write_known.Goals as goal

pub returns-then-is_latest-clause-table : goal.returns-then-is_latest-clause-table
returns-then-is_latest-clause-table g c =
    let t = c.args.tid in
    let w = c.args.w in
    let own : g.S.Stamp.number_of c.args.access.stamp ≡ stamp_at (pages_of c.self.inside.threads.threads t) w =
    c.requires.own ∙ ap (λ (k : State). stamp_at (pages_of k.live.threads t) w) (sym c.self.view_is) in
    let wrote : g.S.Stamp.number_of c.args.latest.stamp ≡ stamp_at c.self.inside.writes.pages w =
    c.requires.stamp ∙ ap (λ (k : State). stamp_at k.writes w) (sym c.self.view_is) in
    let mark : c.args.latest.mark ≡ stamp_at c.self.inside.marks.pages w =
    c.requires.mark ∙ ap (λ (k : State). stamp_at k.marks w) (sym c.self.view_is) in
    write_again g.S.Stamp.MAX t w 1 _ _ _ c.self.view_is c.requires.may refl
    (omega (arith, own, c.number.ensures.value, c.if-number-self.true))
    (omega (arith, wrote, c.is_latest.ensures.stamp c.if-is_latest.true))
    (omega (arith, mark, c.is_latest.ensures.mark c.if-is_latest.true))
    (omega arith)
