use Rattle.std.proofs.Common.{◌∙◌, ℕ, List, Option, ap, ap₂, set}
use Rattle.std.proofs.lemmas.List.{map-set}
use Rattle.rv_isa.specs.declared.instruction.Instr.{Instr}
use Rattle.guest_memory.specs.Code.{known_of}
use Rattle.guest_memory.proofs.code_page.CodePage.learn.Goals as goal

pub returns-clause-page : goal.returns-clause-page
returns-clause-page c =
    ap (λ (xs : List (Option Instr)). (c.self.inside.number, xs)) (map-set known_of c.self.inside.words.items c.args.word c.of.result)
    ∙ ap₂ (λ (p : ℕ × List (Option Instr)) (o : Option Instr). (p.0, set p.1 c.args.word o)) c.self.view_is c.of.ensures
