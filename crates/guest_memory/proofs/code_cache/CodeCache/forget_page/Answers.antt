use Rattle.std.proofs.Common.{◌≡◌, ◌<◌, ◌∙◌, ◌-◌, ℕ, ap, arith, get_or, length, set, subst, sym}
use Rattle.std.proofs.lemmas.List.{get_or_read}
use Rattle.std.specs.Prelude.{vec_len}
use Rattle.guest_memory.specs.Private.CodePages.{IsIndex, no_code, page_at}
use Rattle.guest_memory.proofs.PagesOfCode.{Page, Pages, within}
use Rattle.guest_memory.proofs.RemovedCode.{Removes, index_removed, last_at, last_number}
use Rattle.guest_memory.proofs.code_cache.CodeCache.forget_page.Goals as goal

-- what is read of the last page
number_read : (pages : Pages) (count : ℕ) (last : Page) (number : ℕ) → 0 < length pages → count ≡ length pages → last ≡ get_or pages (count - 1) last → number ≡ last.0 →
    number ≡ last_number pages
number_read pages count last number some is read own =
    own ∙ ap (λ (p : Page). p.0) (get_or_read pages (count - 1) last (omega (arith, some, is)) read no_code) ∙ ap (λ n. (page_at pages (n - 1)).0) is

pub index_mut-requires : goal.index_mut-requires
index_mut-requires c =
    let places = c.args.self.now.places.items in
    let pages = c.args.self.now.pages.items in
    let index = c.args.self.now.index in
    let count : c.len.result ≡ length pages = omega (arith, c.len.ensures) in
    let is : c.number-last.result ≡ last_number pages = number_read pages c.len.result c.index.result.now c.number-last.result index.first count c.index.ensures c.number-last.ensures in
    let some : 0 < c.place-place.result = omega (arith, c.if-place-ne0.true) in
    let at : get_or places c.number-last.result 0 ≡ length pages - 1 = ap (λ n. get_or places n 0) is ∙ last_at places pages index c.place-place.result some c.place-place.ensures.inside in
    omega (arith, within places c.number-last.result (omega (arith, at, some, c.place-place.ensures.inside)))

pub invariant_of-self : goal.invariant_of-self
invariant_of-self c =
    let places = c.args.self.now.places.items in
    let pages = c.args.self.now.pages.items in
    let index = c.args.self.now.index in
    let page = c.args.page in
    let place = c.place-place.result in
    let rest = c.swap_remove.new.self.items in
    let count : c.len.result ≡ length pages = omega (arith, c.len.ensures) in
    let long : vec_len c.args.self.now.pages ≡ length pages = omega arith in
    let is : c.number-last.result ≡ last_number pages = number_read pages c.len.result c.index.result.now c.number-last.result index.first count c.index.ensures c.number-last.ensures in
    let removes : Removes places pages rest page place = record {
      index = index;
      some = omega (arith, c.if-place-ne0.true);
      is = ap (λ n. get_or places n 0) (sym c.from.ensures) ∙ sym c.place-place.ensures.place;
      size = omega (arith, c.swap_remove.ensures.len);
      moved = λ h. c.swap_remove.ensures.by_index.0 no_code (omega (arith, h)) ∙ ap (λ n. page_at pages (n - 1)) long;
      others = λ k differs h. c.swap_remove.ensures.by_index.1 k no_code differs (omega (arith, h));
    } in
    record {
      index = subst (λ n. IsIndex (set (set places n place) page 0) rest) (sym is) (index_removed places pages rest page place removes);
      few = omega (arith, c.swap_remove.ensures.len, c.args.self.now.few);
    }
