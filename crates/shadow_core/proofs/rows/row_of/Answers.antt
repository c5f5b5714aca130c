use Rattle.std.proofs.Common.{◌≡◌, ◌∙◌, length, map, take, ap, sym, arith}
use Rattle.std.proofs.lemmas.List.{length-map, length-take-le, take-map}
use Rattle.shadow_pages.specs.Pages.{stamp_at}
use Rattle.stamp_renumber.proofs.Words.{zeros_long}
use Rattle.shadow_core.proofs.RowParts.{none_words, row_is}
use Rattle.shadow_core.proofs.rows.row_of.Goals as goal

pub slice_bounds-result-end : goal.slice_bounds-result-end
slice_bounds-result-end g c =
    let none = c.args.none.now in
    let long : length none ≡ 1024 = sym (length-map none g.S.Stamp.number_of) ∙ ap length c.requires.none ∙ zeros_long in
    sym (length-take-le c.args.count none (omega (arith, long, c.requires.within)))

pub returns-then-covers-clause-row : goal.returns-then-covers-clause-row
returns-then-covers-clause-row g c =
    let f = g.S.Stamp.number_of in
    row_is (stamp_at c.args.pages.now.pages) (map f c.row.result.now) c.args.first c.args.count (length-map c.row.result.now f ∙ c.row.ensures.count) c.row.ensures.stamps

pub returns-else-covers-clause-row : goal.returns-else-covers-clause-row
returns-else-covers-clause-row g c =
    let f = g.S.Stamp.number_of in
    sym (take-map f c.args.count c.args.none.now)
    ∙ ap (take c.args.count) c.requires.none
    ∙ none_words c.args.pages.now.pages c.args.first c.args.count (sym c.covers.ensures.value ∙ c.if-covers.false) c.requires.within

pub returns-else-covers-clause-count : goal.returns-else-covers-clause-count
returns-else-covers-clause-count g c =
    let none = c.args.none.now in
    let long : length none ≡ 1024 = sym (length-map none g.S.Stamp.number_of) ∙ ap length c.requires.none ∙ zeros_long in
    length-take-le c.args.count none (omega (arith, long, c.requires.within))
