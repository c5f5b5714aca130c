use Rattle.std.proofs.Common.{Some, ◌≡◌, ◌<◌, ◌∙◌, ◌/◌, ◌%◌, ap, arith, get_or, length, set, subst, sym}
use Rattle.std.proofs.lemmas.List.{get_or_read}
use Rattle.guest_memory.specs.Private.CodePages.{known_in, no_code, page_at}
use Rattle.guest_memory.proofs.KeptCode.{Holds}
use Rattle.guest_memory.proofs.PagesOfCode.{Page, holds_learned}
use Rattle.guest_memory.proofs.code_cache.CodeCache.learn.Goals as goal

pub returns-in_ok-place : goal.returns-in_ok-place
returns-in_ok-place c = λ m holds loads.
    let cache = c.place_for.new.self in
    let places = cache.places.items in
    let pages = cache.pages.items in
    let place = c.in_ok-place.place in
    let i = c.in-Some.instruction in
    let read : c.index_mut.result.now ≡ page_at pages place = get_or_read pages place c.index_mut.result.now c.in_ok-place.ensures.inside c.index_mut.ensures.value no_code in
    let before : Holds (known_in places pages) m = λ w i is. holds w i (sym (c.in_ok-place.ensures.known w) ∙ is) in
    let at : place ≡ get_or places (c.args.at / 4096) 0 = c.in_ok-place.ensures.place in
    let low : c.args.at / 4 % 1024 < length (page_at pages place).1 = omega (arith, c.learn.ensures.whole, ap (λ (p : Page). length p.1) read) in
    subst (λ (p : Page). Holds (known_in places (set pages place p)) m)
    (sym (c.learn.ensures.page ∙ ap (λ (p : Page). (p.0, set p.1 (c.args.at / 4 % 1024) (Some i))) read))
    (holds_learned places pages m cache.index before c.args.at c.args.word (Some i) place c.requires c.in_ok-place.ensures.some at c.in_ok-place.ensures.inside low loads (λ j is. sym c.in-Some.ensures.instruction ∙ is))
