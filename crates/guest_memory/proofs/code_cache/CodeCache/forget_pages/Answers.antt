use Rattle.std.proofs.Common.{◌∙◌, ◌+◌, ◌/◌, arith, inl, inr}
use Rattle.std.proofs.lemmas.Bool.{cases_eq}
use Rattle.guest_memory.specs.Private.CodePages.{known_in}
use Rattle.guest_memory.proofs.KeptCode.{holds_but}
use Rattle.guest_memory.proofs.code_cache.CodeCache.forget_pages.Goals as goal

pub loop-k-preserved : goal.loop-k-preserved
loop-k-preserved c =
    let page = c.args.first + c.loop-k.k in
    record {
      gone = λ w from below. elim (cases_eq (w / 1024) page) [
        | inl same ↦ c.forget_page.ensures.gone w same
        | inr differs ↦ c.forget_page.ensures.rest w differs ∙ c.loop-k.invariant.gone w from (omega (arith, below, differs))
      ];
      rest = λ w outside.
          c.forget_page.ensures.rest w (λ same. absurd (elim outside [ inl before ↦ omega (arith, before, same) | inr past ↦ omega (arith, past, same) ]))
          ∙ c.loop-k.invariant.rest w (elim outside [ inl before ↦ inl before | inr past ↦ inr (omega (arith, past)) ]);
    }

pub returns : goal.returns
returns c = λ m n agree holds.
    let old = c.args.self.now in
    let new = c.loop-k.self in
    holds_but (known_in old.places.items old.pages.items) (known_in new.places.items new.pages.items) c.args.first c.args.count m n agree
    (λ w from below. c.loop-k.invariant.gone w from (omega (arith, below)))
    (λ w outside. c.loop-k.invariant.rest w (elim outside [ inl before ↦ inl before | inr past ↦ inr (omega (arith, past)) ])) holds
