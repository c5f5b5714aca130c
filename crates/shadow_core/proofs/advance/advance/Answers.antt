use Rattle.std.proofs.Common.{◌≡◌, ◌+◌, ℕ, Bool, sym, subst, true, false, cond, refl, ap, ◌∙◌}
use mir.Val.{bool_byte}
use Rattle.stamp_renumber.specs.declared.ticks.Ticked.{Ticked}
use Rattle.shadow_core.specs.Profiling.{Clock, IsAdvanced}
use Rattle.shadow_core.proofs.Advanced.{advanced, clock_after}
use Rattle.shadow_core.proofs.advance.advance.Goals as goal

as_number : (b : Bool) → bool_byte b ≡ cond b 1 0
as_number true = refl
as_number false = refl

pub returns-clause-advanced : goal.returns-clause-advanced
returns-clause-advanced g c =
    let old : Clock = record { counter = c.args.counter.now; writes = c.args.writes.now.pages; live = c.args.threads.now; renumbered = c.args.renumbered.now } in
    let new = c.tick-answer.new in
    let e = c.tick-answer.ensures in
    let raised : c.from.result ≡ cond c.tick-answer.result.renewed 1 0 = c.from.ensures ∙ as_number c.tick-answer.result.renewed in
    let is : clock_after g.S.Stamp.MAX old new.threads new.writes.pages
    ≡ record { counter = c.tick-answer.result.counter; writes = new.writes.pages; live = new.threads; renumbered = old.renumbered + c.from.result } =
    ap (λ (a : Ticked). record { counter = a.counter; writes = new.writes.pages; live = new.threads; renumbered = old.renumbered + cond a.renewed 1 0 }) (sym e.answer)
    ∙ ap (λ (n : ℕ). record { counter = c.tick-answer.result.counter; writes = new.writes.pages; live = new.threads; renumbered = old.renumbered + n }) (sym raised) in
    subst (λ (b : Bool). IsAdvanced g.S.Stamp.MAX b old (record { counter = c.tick-answer.result.counter; writes = new.writes.pages; live = new.threads; renumbered = old.renumbered + c.from.result })) (sym c.if-not-ticks.false)
    (subst (λ (k : Clock). IsAdvanced g.S.Stamp.MAX true old k) is
    (advanced g.S.Stamp.MAX old new.threads new.writes.pages c.requires.within c.requires.room c.requires.rising
    (λ low. ((e.below low).0, ap (λ (p : Rattle.shadow_pages.specs.Pages.Pages). p.pages) (e.below low).1)) e.renewed))
