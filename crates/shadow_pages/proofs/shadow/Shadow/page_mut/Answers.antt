use Rattle.std.proofs.Common.{◌≡◌, ◌∙◌, List, ap, ap₂, sym, subst, set, map, length, refl}
use Rattle.std.specs.Vec.{with_items}
use Rattle.std.proofs.lemmas.List.{length-map, map-set}
use Rattle.shadow_pages.specs.declared.shadow.Page.{Page as Kept}
use Rattle.shadow_pages.specs.Pages.{AreKept, Page, Pages, page_at, refilled}
use Rattle.shadow_pages.proofs.Changes.{kept_with, refilled_map}
use Rattle.shadow_pages.proofs.Places.{seen, page_read, full_page}
use Rattle.shadow_pages.proofs.shadow.Shadow.page_mut.Goals as goal

pub invariant_of-self-lent : goal.invariant_of-self-lent
invariant_of-self-lent g c = λ w.
    let look : Kept g.row.S.Denot → Page = seen (λ p. p.number) (λ p. map g.S.Stamp.number_of p.stamps.items) in
    let items = c.self.inside.pages.items in
    let page = c.index_mut-page.result.now in
    let new : Kept g.row.S.Denot = record { number = page.number; stamps = with_items page.stamps w } in
    let pages_are : map look items ≡ c.args.self.now.pages = ap (λ (s : Pages). s.pages) c.self.view_is in
    let kept = subst (λ ps. AreKept c.self.inside.directory ps) pages_are c.self.invariant in
    let read = page_read (λ p. p.number) (λ p. map g.S.Stamp.number_of p.stamps.items) c.args.self.now.pages items c.args.i page pages_are c.requires c.index_mut-page.ensures.value in
    let long : length (look new).stamps ≡ 1024 =
    length-map (with_items page.stamps w).items g.S.Stamp.number_of ∙ sym (with_items page.stamps w).ok.0 ∙ page.stamps.ok.0 ∙ sym (length-map page.stamps.items g.S.Stamp.number_of) ∙ ap (λ (p : Page). length p.stamps) (sym read) ∙ full_page c.args.self.now.pages c.args.i kept.full c.requires
    in
    subst (λ ps. AreKept c.self.inside.directory ps)
    (sym (map-set look items c.args.i new ∙ ap (λ ps. set ps c.args.i (look new)) pages_are))
    (kept_with c.args.self.now.pages c.args.i (look new) c.requires (ap (λ (p : Page). p.number) (sym read)) c.self.inside.directory kept long)

pub returns : goal.returns
returns g c =
    let look : Kept g.row.S.Denot → Page = seen (λ p. p.number) (λ p. map g.S.Stamp.number_of p.stamps.items) in
    let items = c.self.inside.pages.items in
    let page = c.index_mut-page.result.now in
    let pages_are : map look items ≡ c.args.self.now.pages = ap (λ (s : Pages). s.pages) c.self.view_is in
    let kept = subst (λ ps. AreKept c.self.inside.directory ps) pages_are c.self.invariant in
    let read = page_read (λ p. p.number) (λ p. map g.S.Stamp.number_of p.stamps.items) c.args.self.now.pages items c.args.i page pages_are c.requires c.index_mut-page.ensures.value in
    let shown : map g.S.Stamp.number_of c.as_mut_slice.result.now ≡ (page_at c.args.self.now.pages c.args.i).stamps = ap (λ xs. map g.S.Stamp.number_of xs) c.as_mut_slice.ensures.value ∙ ap (λ (p : Page). p.stamps) (sym read) in (
      (
        refl,
        λ w.
            let new : Kept g.row.S.Denot = record { number = page.number; stamps = with_items page.stamps w } in
            ap (λ ps. record { pages = ps })
            (map-set look items c.args.i new
            ∙ ap₂ (λ (ps : List Page) (q : Page). set ps c.args.i q) pages_are
            (ap (λ xs. record { number = page.number; stamps = xs }) (refilled_map g.S.Stamp.number_of page.stamps.len page.stamps.items w page.stamps.ok.0)
            ∙ ap (λ (p : Page). record { number = p.number; stamps = refilled p.stamps (map g.S.Stamp.number_of w) }) (sym read))),
      ),
      record {
        writes_back = tt;
        value = shown;
        count = sym (length-map c.as_mut_slice.result.now g.S.Stamp.number_of) ∙ ap length shown ∙ full_page c.args.self.now.pages c.args.i kept.full c.requires;
      },
    )
