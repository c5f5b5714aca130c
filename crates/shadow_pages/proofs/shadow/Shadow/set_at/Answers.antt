use Rattle.std.proofs.Common.{◌/◌, ◌%◌, ap, ap₂, sym, ◌∙◌, length, set}
use Rattle.std.proofs.lemmas.List.{length-map, length-set, map-set}
use Rattle.shadow_pages.specs.Pages.{covers, page_at, refilled, stamp_at}
use Rattle.shadow_pages.proofs.Changes.{changed_place, covers_changed, refilled_same, set_this, set_others}
use Rattle.shadow_pages.proofs.Lookups.{only_page}
use Rattle.shadow_pages.proofs.shadow.Shadow.set_at.Goals as goal

pub returns-clause-pages : goal.returns-clause-pages
returns-clause-pages g c =
    let pages = c.args.self.now.pages in
    let place = c.requires in
    let lent = c.page_mut-stamps.ensures in
    let s = g.S.Stamp.number_of c.args.s in
    let old = (page_at pages c.args.place).stamps in
    let new = set old (c.args.w % 1024) s in
    let moved = map-set g.S.Stamp.number_of c.page_mut-stamps.result.now (c.number.result % 1024) c.args.s ∙ ap₂ (λ xs n. set xs (n % 1024) s) lent.value c.number.ensures.same in
    let written = ap (λ ws. refilled old ws) moved ∙ refilled_same old new (length-set old (c.args.w % 1024) s) in
    ap (λ ws. set pages c.args.place (record { number = (page_at pages c.args.place).number; stamps = ws })) written
    ∙ sym (changed_place pages (c.args.w / 1024) c.args.place (λ xs. set xs (c.args.w % 1024) s) place.within place.page place.only)

pub returns-clause-this : goal.returns-clause-this
returns-clause-this g c =
    let pages = c.args.self.now.pages in
    let place = c.requires in
    let lent = c.page_mut-stamps.ensures in
    let s = g.S.Stamp.number_of c.args.s in
    let long = ap length (sym lent.value) ∙ length-map c.page_mut-stamps.result.now g.S.Stamp.number_of ∙ lent.count in
    ap (λ ps. stamp_at ps c.args.w) (returns-clause-pages g c)
    ∙ set_this pages c.args.w s (page_at pages c.args.place) (only_page pages (c.args.w / 1024) c.args.place place.within place.page place.only) long

pub returns-clause-others : goal.returns-clause-others
returns-clause-others g c = λ v ne.
    let pages = c.args.self.now.pages in
    let place = c.requires in
    let lent = c.page_mut-stamps.ensures in
    let s = g.S.Stamp.number_of c.args.s in
    let long = ap length (sym lent.value) ∙ length-map c.page_mut-stamps.result.now g.S.Stamp.number_of ∙ lent.count in
    ap (λ ps. stamp_at ps v) (returns-clause-pages g c)
    ∙ set_others pages c.args.w s (page_at pages c.args.place) (only_page pages (c.args.w / 1024) c.args.place place.within place.page place.only) long v ne

pub returns-clause-covered : goal.returns-clause-covered
returns-clause-covered g c = λ v.
    ap (λ ps. covers ps v) (returns-clause-pages g c)
    ∙ covers_changed c.args.self.now.pages (c.args.w / 1024) (λ old. set old (c.args.w % 1024) (g.S.Stamp.number_of c.args.s)) v
