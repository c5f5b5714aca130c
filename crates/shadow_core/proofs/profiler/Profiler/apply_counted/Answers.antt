use Rattle.std.proofs.Common.{◌∙◌, sym}
use Rattle.shadow_core.proofs.Applied.{taken}
use Rattle.shadow_core.proofs.profiler.Profiler.apply_counted.Goals as goal

pub returns-in_err-take-clause-deep : goal.returns-in_err-take-clause-deep
returns-in_err-take-clause-deep g c = λ past stands deep.
    absurd (let no = sym c.if-is_too_deep.false ∙ c.is_too_deep.ensures past stands ∙ deep in cc)

pub returns-clause-stands : goal.returns-clause-stands
returns-clause-stands g c = λ past stands.
    taken g.S.Stamp.MAX c.args.e past c.args.self.now c.take.new.self c.args.done.now.items c.take.new.done.items c.requires stands
    (sym (c.is_too_deep.ensures past stands) ∙ c.if-is_too_deep.false) c.in_ok-take.ensures.table c.in_ok-take.ensures.records

pub returns-clause-deep : goal.returns-clause-deep
returns-clause-deep g c = λ past stands deep.
    absurd (let no = sym c.if-is_too_deep.false ∙ c.is_too_deep.ensures past stands ∙ deep in cc)
