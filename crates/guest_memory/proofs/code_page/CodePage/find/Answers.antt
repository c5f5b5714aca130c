use Rattle.std.proofs.Common.{IfSome, Option, subst, sym}
use Rattle.rv_isa.specs.declared.instruction.Instr.{Instr}
use Rattle.guest_memory.specs.Code.{IsInstructionAt, known_of}
use Rattle.guest_memory.proofs.code_page.CodePage.find.Goals as goal

pub returns : goal.returns
returns c = λ m code.
    let found = c.in_ok-find_word.ensures m (c.parts-first.ensures.code m code) in
    subst (λ (o : Option Instr). IfSome o (IsInstructionAt m c.args.at)) (sym c.instruction.ensures)
    (subst (λ at. IfSome (known_of c.in_ok-find_word.field-0) (IsInstructionAt m at)) c.words_behind.ensures found)
