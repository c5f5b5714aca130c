use Rattle.std.proofs.Common.{◌≡◌, ℕ, true, List, sym, subst}
use Rattle.std.proofs.lemmas.Result.{on_err_weaker, on_ok_weaker}
use Rattle.shadow_pages.specs.Pages.{Page, covers}
use Rattle.stamp_renumber.proofs.Changed.{either}
use Rattle.shadow_core.proofs.Marked.{marked_on}
use Rattle.shadow_core.proofs.cover.cover_all.Goals as goal

pub returns-clause-marked : goal.returns-clause-marked
returns-clause-marked g c =
    let marks = c.reserve.new.self.pages in
    let kept = λ (w : ℕ) (h : covers c.args.writes.now.pages w ≡ true). c.reserve.ensures.kept w (c.requires.marked w h) in
    either c.reserve-2.result (λ (ps : List Page). (w : ℕ) → covers ps w ≡ true → covers marks w ≡ true) c.reserve-2.new.self.pages
    (on_ok_weaker c.reserve-2.result (λ is. marked_on c.args.writes.now.pages c.reserve-2.new.self.pages marks c.args.first c.args.count is kept (c.in_ok-reserve.ensures.ok).covered) c.reserve-2.ensures.ok)
    (on_err_weaker c.reserve-2.result (λ e. subst (λ (ps : List Page). (w : ℕ) → covers ps w ≡ true → covers marks w ≡ true) (sym e) kept) c.reserve-2.ensures.err)
