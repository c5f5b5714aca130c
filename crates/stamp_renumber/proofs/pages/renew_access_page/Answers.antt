use Rattle.std.proofs.Common.{◌≡◌, ◌∙◌, ℕ, List, length, map, set, ap, ap₂, sym}
use Rattle.std.proofs.lemmas.List.{length-map}
use Rattle.shadow_pages.specs.Pages.{Page, page_at}
use Rattle.stamp_renumber.specs.Private.Rows.{new_accesses, writes_of}
use Rattle.stamp_renumber.proofs.Words.{refilled_same, written_row, unwritten_row}
use Rattle.stamp_renumber.proofs.pages.renew_access_page.Goals as goal
use Rattle.stamp_renumber.proofs.pages.renew_access_page.Goals.{then-covers, else-covers}

pub returns : goal.returns
returns g c =
    let f = g.S.Stamp.number_of in
    let starts = map f c.args.starts.now in
    let old : Page = page_at c.args.shadow.now.pages c.args.i in
    let own = c.page-first.ensures.stamps in
    let row : c.if-covers.rows ≡ new_accesses starts old.stamps (writes_of c.args.writes.now.pages old.number) = elim c.if-covers.branch [
      | then-covers w ↦
          w.rows-is ∙ w.renew_accesses.ensures
          ∙ ap₂ (λ (a b : List ℕ). new_accesses starts a b) own
          (written_row c.args.writes.now.pages old.number c.page-first.result.0 (map f w.row.result.now) c.page-first.ensures.first (length-map w.row.result.now f ∙ w.row.ensures.count) w.row.ensures.stamps)
      | else-covers w ↦
          w.rows-is ∙ w.renew_unwritten.ensures
          ∙ ap₂ (λ (a b : List ℕ). new_accesses starts a b) own
          (unwritten_row c.args.writes.now.pages old.number c.page-first.result.0 c.page-first.ensures.first (sym c.covers.ensures.value ∙ w.if-covers.false))
    ] in
    let long : length (map f c.copy_from_slice.new.self) ≡ length old.stamps =
    length-map c.copy_from_slice.new.self f ∙ ap length c.copy_from_slice.ensures.after ∙ c.renewed.ensures.count ∙ sym c.page-first.ensures.count ∙ sym (length-map c.page-first.result.1.now f) ∙ ap length own
    in
    let new : map f c.copy_from_slice.new.self ≡ c.if-covers.rows = ap (map f) c.copy_from_slice.ensures.after ∙ c.renewed.ensures.value in
    ap (λ xs. set c.args.shadow.now.pages c.args.i (record { number = old.number; stamps = xs })) (refilled_same old.stamps (map f c.copy_from_slice.new.self) long ∙ new ∙ row)
