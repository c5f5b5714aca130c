use Rattle.std.proofs.Common.{◌∙◌, ap, arith, length}
use Rattle.std.specs.Prelude.{nat_lt}
use Rattle.guest_memory.specs.Private.CodePages.{no_code, page_at}
use Rattle.guest_memory.proofs.PagesOfCode.{Pages, code_found}
use Rattle.guest_memory.proofs.code_cache.CodeCache.page_at.Goals as goal

pub returns : goal.returns
returns c = λ m holds.
    let cache = c.args.self.now in
    let place = c.args.place in
    let some = c.get.ensures.lookup.0 ∙ ap (λ (ps : Pages). nat_lt place (length ps)) c.deref.ensures.value in
    let is = c.get.ensures.lookup.4 (omega arith) no_code ∙ ap (λ (ps : Pages). page_at ps place) c.deref.ensures.value in
    code_found cache.places.items cache.pages.items m cache.index holds place c.get.result some is
