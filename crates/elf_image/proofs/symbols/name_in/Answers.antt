use Rattle.std.proofs.Common.{◌-◌, refl, sym, ◌∙◌}
use Rattle.std.proofs.lemmas.Result.{IfOk-weaker}
use Rattle.elf_image.proofs.NameTexts.{begins_nowhere, ends_nowhere, ends_within}
use Rattle.elf_image.proofs.symbols.name_in.Goals as goal

pub returns-then-offset-strings : goal.returns-then-offset-strings
returns-then-offset-strings c = sym (begins_nowhere c.args.strings.now c.args.offset c.if-offset-strings.true)

pub returns-in-None : goal.returns-in-None
returns-in-None c =
    sym (ends_nowhere c.args.strings.now c.args.offset (c.min-end.result - c.args.offset) c.if-offset-strings.false (rw c.min-end.ensures refl) (sym c.first_zero.ensures ∙ c.in-None.is))

pub returns-in-Some : goal.returns-in-Some
returns-in-Some c =
    IfOk-weaker c.name_of.result _ _ (λ name same. same ∙ ends_within c.args.strings.now c.args.offset (c.min-end.result - c.args.offset) c.if-offset-strings.false (rw c.min-end.ensures refl)
    c.in-Some.len (sym c.first_zero.ensures ∙ c.in-Some.is)) c.name_of.ensures
