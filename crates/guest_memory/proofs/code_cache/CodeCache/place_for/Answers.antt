use Rattle.std.proofs.Common.{◌≡◌, ◌∙◌, ◌∷◌, ◌++◌, ◌/◌, ◌%◌, [], ℕ, None, ap, ap₂, arith, get_or, length, set, sym}
use Rattle.guest_memory.specs.Private.CodePages.{IsIndex, known_in, page_at}
use Rattle.guest_memory.proofs.PagesOfCode.{Page, Pages, added, index_same, known_added}
use Rattle.guest_memory.proofs.code_cache.CodeCache.place_for.Goals as goal

pub returns-clause-known : goal.returns-clause-known
returns-clause-known c = λ word.
    let old = c.args.self.now in
    let page = c.args.page in
    let places = c.reach.new.self.places.items in
    let pages = old.pages.items in
    let index : IsIndex places pages = index_same old.places.items places pages c.reach.ensures.places old.index in
    let zero : c.place-place.result ≡ 0 = omega (arith, c.if-place-ne0.false) in
    let none : get_or places page 0 ≡ 0 =
    c.reach.ensures.places page ∙ (ap (λ n. get_or old.places.items n 0) (sym c.from.ensures) ∙ (sym c.place-place.ensures.place ∙ zero)) in
    let is : c.push.new.self.items ≡ added pages page =
    c.in_ok-push.ensures.items ∙ ap₂ (λ (v : Pages) (p : Page). v ++ p ∷ []) c.reach.ensures.pages c.in_ok-new.ensures in
    let next : c.len-next.result ≡ length pages = omega (arith, c.len-next.ensures, ap length c.reach.ensures.pages) in
    ap₂ (λ (n : ℕ) (v : Pages). known_in (set places page n) v word) next is
    ∙ known_added places pages page index c.in_ok-reach.ensures.reached none word
    ∙ ap (λ k. get_or (page_at pages k).1 (word % 1024) None) (c.reach.ensures.places (word / 1024))
