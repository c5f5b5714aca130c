use Rattle.std.proofs.Common.{◌∙◌, refl, subst}
use Rattle.std.proofs.lemmas.Result.{err_from_is_err_and}
use Rattle.command_line.specs.Options.Analysis.{Contexts}
use Rattle.aprof_top.specs.ContextReports.{can_be_numbered, contexts_report}
use Rattle.aprof_top.specs.Private.Jobs.{HaveContexts, desk}
use Rattle.aprof_top.specs.Outcome.{left_of}
use Rattle.aprof_top.proofs.Recorded.{either_left, stored_left}
use Rattle.aprof_top.proofs.contexts_job.deliver_contexts.Goals as goal

pub returns-in_err-text : goal.returns-in_err-text
returns-in_err-text g c = λ bits most seen has err.
    let p = err_from_is_err_and c.from_residual.result c.from_residual.ensures.1 in
    rw (p.1, p.2) (record { stored = (0, refl); err = refl })

pub returns : goal.returns
returns g c = λ bits most seen has err.
    let path = c.args.path.now in
    let image = c.args.image.now in
    let totals = subst (λ found. HaveContexts most found seen.past) c.in-Some.is has.contexts_are in
    stored_left seen (left_of path (Contexts bits) image seen) path c.as_slice.result.now
    (either_left (can_be_numbered seen.past) path (contexts_report image seen) c.as_slice.result.now (c.in_ok-text.ensures.few most seen.past totals)
    (c.as_slice.ensures.value ∙ c.in_ok-text.ensures.text most seen totals has.finish))
    (desk (g.F.Files.state c.args.files.now) err) (desk (g.F.Files.state c.store_result.new.files) err) c.store_result.result
    (c.store_result.ensures seen has.finish err)
