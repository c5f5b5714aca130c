use Rattle.std.proofs.Common.{◌∙◌, ap, sym, subst, List}
use Rattle.std.proofs.lemmas.Result.{on_ok_weaker}
use Rattle.shadow_pages.specs.Pages.{AreCovered, Page, Pages, stamp_at}
use Rattle.stamp_renumber.specs.LentThread.{with_pages}
use Rattle.stamp_renumber.specs.Threads.{frames_of}
use Rattle.shadow_core.specs.Private.Reading.{IsChanged}
use Rattle.shadow_core.proofs.Reading.{lent_changed, pages_changed}
use Rattle.shadow_core.proofs.cover.cover_all_own.Goals as goal

pub returns-clause-changed : goal.returns-clause-changed
returns-clause-changed g c =
    let old = c.args.threads.now in
    let t = c.args.tid in
    let pages = c.reserve.new.self.pages in
    let lent = lent_changed old t pages c.requires.lives in
    let are = pages_changed old (with_pages old t pages) t (frames_of old.threads t) pages c.requires.lives lent in
    subst (λ (ps : List Page). IsChanged old (with_pages old t pages) t (frames_of old.threads t) ps) (sym are) lent

pub returns-clause-stamps : goal.returns-clause-stamps
returns-clause-stamps g c =
    let old = c.args.threads.now in
    let t = c.args.tid in
    let pages = c.reserve.new.self.pages in
    let are = pages_changed old (with_pages old t pages) t (frames_of old.threads t) pages c.requires.lives (lent_changed old t pages c.requires.lives) in
    λ w. ap (λ ps. stamp_at ps w) are ∙ c.reserve.ensures.stamps w ∙ ap (λ (s : Pages). stamp_at s.pages w) c.shadow_mut.ensures.value

pub returns-clause-ok : goal.returns-clause-ok
returns-clause-ok g c =
    let old = c.args.threads.now in
    let t = c.args.tid in
    let pages = c.reserve.new.self.pages in
    let are = pages_changed old (with_pages old t pages) t (frames_of old.threads t) pages c.requires.lives (lent_changed old t pages c.requires.lives) in
    on_ok_weaker c.reserve.result (λ is. subst (λ (ps : List Page). AreCovered ps c.args.first c.args.count) (sym are) is.covered) c.reserve.ensures.ok

pub returns-clause-same : goal.returns-clause-same
returns-clause-same g c = λ covered.
    let old = c.args.threads.now in
    let t = c.args.tid in
    let pages = c.reserve.new.self.pages in
    let are = pages_changed old (with_pages old t pages) t (frames_of old.threads t) pages c.requires.lives (lent_changed old t pages c.requires.lives) in
    let lent = subst (λ (s : Pages). AreCovered s.pages c.args.first c.args.count) (sym c.shadow_mut.ensures.value) covered in
    are ∙ (c.reserve.ensures.covered lent).1 ∙ ap (λ (s : Pages). s.pages) c.shadow_mut.ensures.value
