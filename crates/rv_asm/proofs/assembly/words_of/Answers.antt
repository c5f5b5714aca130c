use Rattle.std.proofs.Common.{ℕ, refl, arith, subst, length-append}
use Rattle.rv_asm.specs.Assembled.{IsWordOf}
use Rattle.rv_isa.specs.Encoding.{IsEncodable}
use Rattle.rv_isa.specs.declared.instruction.Instr.{Instr}
use Rattle.rv_asm.proofs.Words.{assembled_more, reach_more}
use Rattle.rv_asm.proofs.assembly.words_of.Goals as goal

pub loop-at-preserved : goal.loop-at-preserved
loop-at-preserved c = rw c.in_ok-push.ensures.items (record {
  count = omega (arith, length-append {A = ℕ});
  each = assembled_more _ _ _ _ _ _ c.loop-at.invariant.count c.loop-at-test.true c.index-lines-at.is c.loop-at.invariant.each
      (subst (λ (i : Instr). IsWordOf i c.in-Some.word) c.instruction_at.ensures c.in-Some.ensures.word);
  reach = reach_more _ _ _ _ c.loop-at-test.true c.index-lines-at.is c.loop-at.invariant.reach
      (subst IsEncodable c.instruction_at.ensures (c.in-Some.ensures.encodable.0 refl));
})
