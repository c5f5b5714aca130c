use Rattle.std.proofs.Common.{◌/◌, ◌<◌, ◌∙◌, ap, subst, sym, get_or, length, map}
use Rattle.std.proofs.lemmas.List.{length-map}
use Rattle.shadow_pages.specs.Pages.{AreKept, Page, Pages}
use Rattle.shadow_pages.proofs.Lookups.{same_place, test_same}
use Rattle.shadow_pages.proofs.Places.{page_read}
use Rattle.shadow_pages.proofs.shadow.Shadow.has_at.Goals as goal

pub returns-in-Some : goal.returns-in-Some
returns-in-Some g c = λ same.
    let pages = c.args.self.now.pages in
    let pages_are = ap (λ (s : Pages). s.pages) c.self.view_is in
    let kept = subst (λ ps. AreKept c.self.inside.directory ps) pages_are c.self.invariant in
    let items = c.self.inside.pages.items in
    let is = c.deref.ensures.value in
    let inside : c.args.place < length items = subst (λ xs. c.args.place < length xs) is c.in-Some.ensures.lookup.3.0 in
    let within : c.args.place < length pages = subst (λ n. c.args.place < n) (sym (length-map items _) ∙ ap length pages_are) inside in
    let read = page_read (λ p. p.number) (λ p. map g.S.Stamp.number_of p.stamps.items) pages items c.args.place c.in-Some.page.now pages_are within
    (c.in-Some.ensures.lookup.1 ∙ ap (λ xs. get_or xs c.args.place c.in-Some.page.now) is) in
    let number = ap (λ (p : Page). p.number) read ∙ test_same c.in-Some.page.now.number (c.number.result / 1024) same ∙ ap (λ n. n / 1024) c.number.ensures.same in
    record {
      within = within;
      page = number;
      only = λ i lt is. same_place c.self.inside.directory pages kept.indexed i c.args.place lt within (is ∙ sym number);
    }
