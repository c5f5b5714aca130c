use Rattle.std.proofs.Common.{◌/◌, ap, sym, ◌∙◌, subst}
use Rattle.std.specs.Option.{is_some}
use Rattle.shadow_pages.specs.Directory.{entry}
use Rattle.shadow_pages.specs.Pages.{AreKept, Pages}
use Rattle.shadow_pages.proofs.Lookups.{same_cover, place_said}
use Rattle.shadow_pages.proofs.shadow.Shadow.covers.Goals as goal

pub returns-clause-value : goal.returns-clause-value
returns-clause-value g c =
    let kept = subst (λ ps. AreKept c.self.inside.directory ps) (ap (λ (s : Pages). s.pages) c.self.view_is) c.self.invariant in
    c.is_some.ensures ∙ ap is_some c.place.ensures ∙ ap (λ n. is_some (entry c.self.inside.directory (n / 1024))) c.number.ensures.same ∙ same_cover c.self.inside.directory c.args.self.now.pages kept.indexed (c.args.w / 1024)

pub returns-clause-page : goal.returns-clause-page
returns-clause-page g c =
    let kept = subst (λ ps. AreKept c.self.inside.directory ps) (ap (λ (s : Pages). s.pages) c.self.view_is) c.self.invariant in
    let is = c.is_some.ensures ∙ ap is_some c.place.ensures ∙ ap (λ n. is_some (entry c.self.inside.directory (n / 1024))) c.number.ensures.same in (
      λ has. let said = place_said (entry c.self.inside.directory (c.args.w / 1024)) (sym is ∙ has) in let held = kept.indexed.held (c.args.w / 1024) said.0 said.1 in (said.0, held.0, held.1),
      λ p. is ∙ ap (λ n. is_some (entry c.self.inside.directory n)) (sym p.2) ∙ ap is_some (kept.indexed.said p.0 p.1),
    )
