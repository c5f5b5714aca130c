use Rattle.std.proofs.Common.{◌≡◌, ◌∙◌, ◌∷◌, ◌++◌, [], ℕ, List, None, ap, ap₂, arith, length, replicate, subst, sym}
use Rattle.guest_memory.specs.Private.CodePages.{IsIndex}
use Rattle.guest_memory.proofs.PagesOfCode.{Pages, Page, new_index}
use Rattle.guest_memory.proofs.code_cache.CodeCache.new.Goals as goal

pub invariant_of-result : goal.invariant_of-result
invariant_of-result c =
    let is : c.push.new.self.items ≡ (0, replicate 1024 None) ∷ [] =
    c.in_ok-push.ensures.items ∙ ap₂ (λ (v : Pages) (p : Page). v ++ p ∷ []) c.new-pages.ensures.items c.in_ok-new.ensures in
    record {
      index = subst (λ (v : Pages). IsIndex c.new-2.result.items v) (sym is)
          (subst (λ (places : List ℕ). IsIndex places ((0, replicate 1024 None) ∷ [])) (sym c.new-2.ensures.items) (new_index 0));
      few = omega (arith, ap length is);
    }
