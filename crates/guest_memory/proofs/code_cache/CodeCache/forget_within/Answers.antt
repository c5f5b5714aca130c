use Rattle.std.proofs.Common.{◌≡◌, ◌+◌, ◌/◌, ◌%◌, arith, subst}
use Rattle.std.proofs.lemmas.List.{get_or_read}
use Rattle.guest_memory.specs.Private.CodePages.{AreForgotten, no_code, page_at}
use Rattle.guest_memory.proofs.PagesOfCode.{Page, holds_elsewhere, holds_forgotten}
use Rattle.guest_memory.proofs.code_cache.CodeCache.forget_within.Goals as goal

pub returns-then-place-ne0 : goal.returns-then-place-ne0
returns-then-place-ne0 c = λ m bytes few holds.
    let places = c.args.self.now.places.items in
    let pages = c.args.self.now.pages.items in
    let place = c.place-place.result in
    let read : c.index_mut.result.now ≡ page_at pages place = get_or_read pages place c.index_mut.result.now c.place-place.ensures.inside c.index_mut.ensures.value no_code in
    holds_forgotten places pages m c.args.self.now.index holds c.args.at c.args.count bytes place c.forget.new.self (omega arith) c.place-place.ensures.place c.place-place.ensures.inside few c.requires
    (subst (λ (p : Page). AreForgotten (c.args.at % 4096 / 4) ((c.args.at % 4096 + c.args.count + 3) / 4) p.1 c.forget.new.self.1) read c.forget.ensures.words)

pub returns-else-place-ne0 : goal.returns-else-place-ne0
returns-else-place-ne0 c = λ m bytes few holds.
    holds_elsewhere c.args.self.now.places.items c.args.self.now.pages.items m c.args.self.now.index holds c.args.at bytes
    (omega (arith, c.place-place.ensures.place, c.if-place-ne0.false)) (omega (arith, few, c.requires))
