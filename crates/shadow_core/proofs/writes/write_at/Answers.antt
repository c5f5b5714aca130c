use Rattle.std.proofs.Common.{◌∙◌, ap, sym, subst, List}
use Rattle.shadow_pages.specs.Pages.{Page, Pages, covers, stamp_at}
use Rattle.stamp_renumber.specs.LentThread.{with_pages}
use Rattle.stamp_renumber.specs.Threads.{frames_of}
use Rattle.stamp_table.specs.Table.{stamped}
use Rattle.shadow_core.specs.Private.Reading.{IsChanged}
use Rattle.shadow_core.proofs.Reading.{lent_changed, pages_changed}
use Rattle.shadow_core.proofs.writes.write_at.Goals as goal

pub returns-clause-changed : goal.returns-clause-changed
returns-clause-changed g c =
    let old = c.args.threads.now in
    let t = c.args.tid in
    let pages = c.stamp_word.new.pages.pages in
    let lent = lent_changed old t pages c.requires.lives in
    let are = pages_changed old (with_pages old t pages) t (frames_of old.threads t) pages c.requires.lives lent in
    subst (λ (ps : List Page). IsChanged old (with_pages old t pages) t (frames_of old.threads t) ps) (sym are) lent

pub returns-clause-access : goal.returns-clause-access
returns-clause-access g c =
    let old = c.args.threads.now in
    let t = c.args.tid in
    let pages = c.stamp_word.new.pages.pages in
    let was = c.shadow_mut.ensures.value in
    let are = pages_changed old (with_pages old t pages) t (frames_of old.threads t) pages c.requires.lives (lent_changed old t pages c.requires.lives) in
    record {
      stamps = λ w. ap (λ ps. stamp_at ps w) are ∙ c.stamp_word.ensures.stamps w ∙ ap (λ (s : Pages). stamped (g.S.Stamp.number_of c.args.stamp) c.args.w 1 (stamp_at s.pages) w) was;
      covered = λ w. ap (λ ps. covers ps w) are ∙ c.stamp_word.ensures.covered w ∙ ap (λ (s : Pages). covers s.pages w) was;
    }
