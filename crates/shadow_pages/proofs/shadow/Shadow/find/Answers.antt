use Rattle.std.proofs.Common.{◌/◌, ap, ◌∙◌, subst}
use Rattle.std.specs.Option.{is_some}
use Rattle.shadow_pages.specs.Directory.{entry}
use Rattle.shadow_pages.specs.Pages.{AreKept, Pages}
use Rattle.shadow_pages.proofs.Lookups.{same_cover}
use Rattle.shadow_pages.proofs.shadow.Shadow.find.Goals as goal

pub returns-clause-some : goal.returns-clause-some
returns-clause-some g c =
    let kept = subst (λ ps. AreKept c.self.inside.directory ps) (ap (λ (s : Pages). s.pages) c.self.view_is) c.self.invariant in
    ap is_some c.place.ensures ∙ ap (λ n. is_some (entry c.self.inside.directory (n / 1024))) c.number.ensures.same ∙ same_cover c.self.inside.directory c.args.self.now.pages kept.indexed (c.args.w / 1024)
