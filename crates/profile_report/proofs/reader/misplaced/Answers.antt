use Rattle.std.proofs.Common.{◌∙◌, sym, ap}
use Rattle.std.proofs.lemmas.Bool.{true≢false}
use Rattle.profile_report.specs.declared.line.Line.TheVariants.{First}
use Rattle.profile_report.specs.Grammar.{may_stand}
use Rattle.profile_report.proofs.reader.misplaced.Goals as goal

pub returns-in-AtVersion : goal.returns-in-AtVersion
returns-in-AtVersion c bytes misplaced = (c.in-AtVersion.is, λ v e. true≢false (sym (ap (λ p. may_stand p (First v)) c.in-AtVersion.is) ∙ misplaced (First v) tt e))
