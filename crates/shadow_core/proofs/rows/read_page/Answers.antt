use Rattle.std.proofs.Common.{◌∙◌, ◌+◌, ◌&&◌, cond, get_or, ◌%◌, ◌/◌, ℕ, List, length, map, ap, sym, subst}
use Rattle.std.specs.Prelude.{◌==◌, nat_le, nat_lt}
use Rattle.std.specs.Simd.Lanes.{chunk}
use Rattle.std.proofs.lemmas.List.{length-map}
use Rattle.stamp_lanes.specs.Plain.{IsBulk, places}
use Rattle.shadow_pages.proofs.CallerLemmas.{written_cover}
use Rattle.shadow_core.proofs.RowParts.{page_read, part_words}
use Rattle.shadow_core.proofs.rows.read_page.Goals as goal

pub returns-clause-counts : goal.returns-clause-counts
returns-clause-counts g c =
    let f = g.S.Stamp.number_of in
    let row = c.page_of_mut-row.result.now in
    let n = length c.args.write.now in
    let own = ap (λ k. chunk (k % 1024) n (map f row)) c.number.ensures.same
    ∙ part_words c.args.pages.now.pages c.args.first n (map f row) c.page_of_mut-row.ensures.value (length-map row f ∙ c.page_of_mut-row.ensures.count) c.requires.within in
    subst (λ (os : List ℕ). IsBulk (f c.args.start) (places os (map f c.args.write.now) c.args.marks.now) c.read_row.result) own c.read_row.ensures.counts

pub returns-clause-stamps : goal.returns-clause-stamps
returns-clause-stamps g c = λ w.
    let f = g.S.Stamp.number_of in
    let row = c.page_of_mut-row.result.now in
    let new = c.read_row.new.row in
    page_read c.args.pages.now.pages c.args.first (length c.args.write.now) (map f row) (map f new) (c.read_row.result.old == 0) (f c.args.stamp)
    c.page_of_mut-row.ensures.value (length-map new f ∙ c.read_row.ensures.count ∙ sym (length-map row f)) c.requires.within
    (λ k. c.read_row.ensures.stamps k
    ∙ ap (λ m. cond ((c.read_row.result.old == 0) && (nat_le (m % 1024) k && nat_lt k (m % 1024 + length c.args.write.now))) (f c.args.stamp) (get_or (map f row) k 0)) c.number.ensures.same) w

pub returns-clause-covered : goal.returns-clause-covered
returns-clause-covered g c = λ w. written_cover c.args.pages.now.pages (c.args.first / 1024) (map g.S.Stamp.number_of c.read_row.new.row) w
