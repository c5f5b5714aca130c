use Rattle.std.proofs.Common.{◌≡◌, ◌∙◌, ◌+◌, ◌-◌, ◌^◌, ℕ, List, length, map, ap, sym, subst, arith, ◌*◌, ◌&&◌, cond}
use Rattle.std.specs.Prelude.{◌==◌}
use Rattle.stamp_lanes.specs.Plain.{IsBulk, Place}
use Rattle.shadow_stack.specs.declared.sums.Sums.{Sums}
use Rattle.shadow_stack.specs.Frames.{Frame, Stack}
use Rattle.shadow_pages.specs.Pages.{Pages, covers, stamp_at, in_range}
use Rattle.stamp_renumber.specs.LentThread.{with_pages}
use Rattle.stamp_renumber.specs.Threads.{Live, frames_of, pages_of}
use Rattle.stamp_table.specs.Allows.{AreWithin, IsWithin}
use Rattle.shadow_core.specs.Private.Reading.{IsRead, IsReadWithin}
use Rattle.shadow_core.proofs.PartReads.{number_within, places_are, read_at_once, read_singly, some_fits, stamps_from}
use Rattle.shadow_core.proofs.Reading.{frames_changed, lent_changed, lives_changed, pages_changed}
use Rattle.shadow_core.proofs.reads.read_part.Goals as goal
use Rattle.shadow_core.proofs.Costs.{within_alone, within_before, within_same}
use Rattle.shadow_core.proofs.StateThreads.{differ}
use Rattle.shadow_core.proofs.reads.read_part.Goals.{then-bulk-eq0, else-bulk-eq0}

pub add_sum-requires-clause-lives : goal.add_sum-requires-clause-lives
add_sum-requires-clause-lives g c =
    let old = c.args.threads.now in
    let pages = c.read_page-bulk.new.pages.pages in
    lives_changed old (with_pages old c.args.tid pages) c.args.tid (frames_of old.threads c.args.tid) pages c.requires.lives (lent_changed old c.args.tid pages c.requires.lives)

pub add_sum-requires-clause-within : goal.add_sum-requires-clause-within
add_sum-requires-clause-within g c =
    let old = c.args.threads.now in
    let pages = c.read_page-bulk.new.pages.pages in
    let same = ap (λ (gs : List Frame). length gs) (frames_changed old (with_pages old c.args.tid pages) c.args.tid (frames_of old.threads c.args.tid) pages c.requires.lives (lent_changed old c.args.tid pages c.requires.lives)) in
    let size = ap (λ (s : Stack). length s.list) c.frames.ensures in
    omega (arith, same, size, c.depth-top.ensures, c.requires.depth)

pub add_sum-requires-clause-fits : goal.add_sum-requires-clause-fits
add_sum-requires-clause-fits g c =
    let old = c.args.threads.now in
    let pages = c.read_page-bulk.new.pages.pages in
    let same = frames_changed old (with_pages old c.args.tid pages) c.args.tid (frames_of old.threads c.args.tid) pages c.requires.lives (lent_changed old c.args.tid pages c.requires.lives) in
    let most : ℕ = 2 ^ 62 + 2 ^ 30 in
    let bulk = c.read_page-bulk.result in
    let by = c.sums_of_bulk.result in
    let small : IsWithin (2 ^ 32) by.plain × IsWithin (2 ^ 32) by.bare = (
      subst (λ (s : Sums). IsWithin (2 ^ 32) s.plain) (sym c.sums_of_bulk.ensures) (number_within bulk.plain (2 ^ 32) (omega arith)),
      subst (λ (s : Sums). IsWithin (2 ^ 32) s.bare) (sym c.sums_of_bulk.ensures) (number_within bulk.untouched (2 ^ 32) (omega arith)),
    ) in
    some_fits most (2 ^ 32) (c.depth-top.result - 1) by (frames_of (with_pages old c.args.tid pages).threads c.args.tid) (omega arith)
    (subst (λ (gs : List Frame). AreWithin most gs) (sym same) c.requires.sums) small

pub read_words-requires-clause-lives : goal.read_words-requires-clause-lives
read_words-requires-clause-lives g c =
    let old = c.args.threads.now in
    let pages = c.read_page-bulk.new.pages.pages in
    lives_changed old (with_pages old c.args.tid pages) c.args.tid (frames_of old.threads c.args.tid) pages c.requires.lives (lent_changed old c.args.tid pages c.requires.lives)

pub read_words-requires-clause-some : goal.read_words-requires-clause-some
read_words-requires-clause-some g c =
    let old = c.args.threads.now in
    let pages = c.read_page-bulk.new.pages.pages in
    let same = ap (λ (gs : List Frame). length gs) (frames_changed old (with_pages old c.args.tid pages) c.args.tid (frames_of old.threads c.args.tid) pages c.requires.lives (lent_changed old c.args.tid pages c.requires.lives)) in
    omega (arith, same, c.requires.depth)

pub read_words-requires-clause-covered : goal.read_words-requires-clause-covered
read_words-requires-clause-covered g c = λ w low high.
    let old = c.args.threads.now in
    let pages = c.read_page-bulk.new.pages.pages in
    let are = pages_changed old (with_pages old c.args.tid pages) c.args.tid (frames_of old.threads c.args.tid) pages c.requires.lives (lent_changed old c.args.tid pages c.requires.lives) in
    ap (λ ps. covers ps w) are ∙ c.read_page-bulk.ensures.covered w ∙ ap (λ (s : Pages). covers s.pages w) c.shadow_mut.ensures.value ∙ c.requires.covered w low high

pub read_words-requires-clause-sums : goal.read_words-requires-clause-sums
read_words-requires-clause-sums g c =
    let old = c.args.threads.now in
    let pages = c.read_page-bulk.new.pages.pages in
    let same = frames_changed old (with_pages old c.args.tid pages) c.args.tid (frames_of old.threads c.args.tid) pages c.requires.lives (lent_changed old c.args.tid pages c.requires.lives) in
    subst (λ (gs : List Frame). AreWithin (2 ^ 62 + 2 ^ 30) gs) (sym same) c.requires.sums

pub returns-clause-thread : goal.returns-clause-thread
returns-clause-thread g c =
    let f = g.S.Stamp.number_of in
    let ps = places_are c.shadow_mut.result.now.pages (pages_of c.args.threads.now.threads c.args.tid) (stamp_at c.args.writes.now.pages) (stamp_at c.args.marks.now.pages) c.args.first c.args.count
    (length c.row_of-write.result.now) (map f c.row_of-write.result.now) c.row_of-mark.result.now (ap (λ (s : Pages). s.pages) c.shadow_mut.ensures.value) c.row_of-write.ensures.count c.row_of-write.ensures.row c.row_of-mark.ensures.row in
    let counts = subst (λ (qs : List Place). IsBulk (f c.start_at-start.result) qs c.read_page-bulk.result) ps c.read_page-bulk.ensures.counts in
    c.from-2.ensures ∙ counts.thread

pub returns-clause-kernel : goal.returns-clause-kernel
returns-clause-kernel g c =
    let f = g.S.Stamp.number_of in
    let ps = places_are c.shadow_mut.result.now.pages (pages_of c.args.threads.now.threads c.args.tid) (stamp_at c.args.writes.now.pages) (stamp_at c.args.marks.now.pages) c.args.first c.args.count
    (length c.row_of-write.result.now) (map f c.row_of-write.result.now) c.row_of-mark.result.now (ap (λ (s : Pages). s.pages) c.shadow_mut.ensures.value) c.row_of-write.ensures.count c.row_of-write.ensures.row c.row_of-mark.ensures.row in
    let counts = subst (λ (qs : List Place). IsBulk (f c.start_at-start.result) qs c.read_page-bulk.result) ps c.read_page-bulk.ensures.counts in
    c.from-3.ensures ∙ counts.kernel

pub returns-clause-read : goal.returns-clause-read
returns-clause-read g c =
    let f = g.S.Stamp.number_of in
    let old = c.args.threads.now in
    let t = c.args.tid in
    let pages = c.read_page-bulk.new.pages.pages in
    let write = stamp_at c.args.writes.now.pages in
    let marks = stamp_at c.args.marks.now.pages in
    let bulk = c.read_page-bulk.result in
    let n = c.args.count in
    let ps = places_are c.shadow_mut.result.now.pages (pages_of old.threads t) write marks c.args.first n
    (length c.row_of-write.result.now) (map f c.row_of-write.result.now) c.row_of-mark.result.now (ap (λ (s : Pages). s.pages) c.shadow_mut.ensures.value) c.row_of-write.ensures.count c.row_of-write.ensures.row c.row_of-mark.ensures.row in
    let counts = subst (λ (qs : List Place). IsBulk (f c.start_at-start.result) qs bulk) ps c.read_page-bulk.ensures.counts in
    let stamps = stamps_from c.shadow_mut.result.now.pages (pages_of old.threads t) pages c.args.first (length c.row_of-write.result.now) n (f c.args.stamp) (bulk.old == 0) (ap (λ (s : Pages). s.pages) c.shadow_mut.ensures.value) c.row_of-write.ensures.count c.read_page-bulk.ensures.stamps in
    let covered : (w : ℕ) → covers pages w ≡ covers (pages_of old.threads t) w = λ w. c.read_page-bulk.ensures.covered w ∙ ap (λ (s : Pages). covers s.pages w) c.shadow_mut.ensures.value in
    let size = ap (λ (s : Stack). length s.list) c.frames.ensures in
    elim c.if-bulk-eq0.branch [
      | then-bulk-eq0 w ↦
          subst (λ (l : Live). IsRead old l t write marks c.args.first n (f c.args.stamp)) (sym w.threads-is)
          (read_at_once old t pages write marks c.args.first n (f c.args.stamp) bulk c.requires.lives stamps covered
          w.add_sum.new.self (c.depth-top.result - 1) (f c.start_at-start.result) w.sums_of_bulk.result c.frames-2.result.now.list
          w.if-bulk-eq0.true w.sums_of_bulk.ensures
          (record { threads = w.add_sum.ensures.threads; calls = w.add_sum.ensures.calls; kept = w.add_sum.ensures.kept; marks = w.add_sum.ensures.marks })
          counts (ap (λ (s : Stack). s.list) c.frames-2.ensures) c.start_at-start.ensures.start c.start_at-start.ensures.rising c.requires.starts
          (omega (arith, size, c.depth-top.ensures, c.requires.depth)))
      | else-bulk-eq0 w ↦
          subst (λ (l : Live). IsRead old l t write marks c.args.first n (f c.args.stamp)) (sym w.threads-is)
          (read_singly old t pages write marks c.args.first n (f c.args.stamp) bulk c.requires.lives stamps covered
          w.read_words.new.threads w.if-bulk-eq0.false (w.read_words.ensures.read marks))
    ]

pub returns-clause-cost : goal.returns-clause-cost
returns-clause-cost g c =
    let old = c.args.threads.now in
    let t = c.args.tid in
    let first = c.args.first in
    let n = c.args.count in
    let pages = c.read_page-bulk.new.pages.pages in
    let mid = with_pages old t pages in
    let bulk = c.read_page-bulk.result in
    let before = c.args.steps.now in
    let lent = lent_changed old t pages c.requires.lives in
    let frames = frames_changed old mid t (frames_of old.threads t) pages c.requires.lives lent in
    let stamps = stamps_from c.shadow_mut.result.now.pages (pages_of old.threads t) pages first (length c.row_of-write.result.now) n (g.S.Stamp.number_of c.args.stamp) (bulk.old == 0) (ap (λ (s : Pages). s.pages) c.shadow_mut.ensures.value) c.row_of-write.ensures.count c.read_page-bulk.ensures.stamps in
    elim c.if-bulk-eq0.branch [
      | then-bulk-eq0 w ↦
          let same = w.steps-is in
          within_alone (23 * n) old t first n before c.if-bulk-eq0.steps (omega (arith, same, c.count.ensures, c.from.ensures, c.requires.some))
      | else-bulk-eq0 w ↦
          let kept : (v : ℕ) → stamp_at (pages_of mid.threads t) v ≡ stamp_at (pages_of old.threads t) v =
          λ v. ap (λ ps. stamp_at ps v) (pages_changed old mid t (frames_of old.threads t) pages c.requires.lives lent) ∙ stamps v
          ∙ ap (λ b. cond (b && in_range first n v) (g.S.Stamp.number_of c.args.stamp) (stamp_at (pages_of old.threads t) v)) (differ bulk.old 0 w.if-bulk-eq0.false)
          in
          subst (λ (m : ℕ). IsReadWithin (23 * n) old t first n before m) (sym w.steps-is)
          (within_same (23 * n) old mid t first n before w.read_words.new.steps frames kept
          (within_before (10 + 4 * n) (9 * n) (23 * n) mid t first n before c.count.new.self w.read_words.new.steps (omega (arith, c.count.ensures, c.from.ensures)) (omega (arith, c.requires.some)) w.read_words.ensures.cost))
    ]
