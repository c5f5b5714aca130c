use Rattle.std.proofs.Common.{◌∙◌, ◌++◌, ◌∷◌, [], ap}
use Rattle.std.specs.Prelude.{if◌then◌else◌}
use Rattle.std.specs.Result.{is_ok}
use Rattle.trace_model.specs.declared.slow_profile.Done.{Done}
use Rattle.shadow_core.proofs.endings.record_call.Goals as goal

pub returns-clause-recorded : goal.returns-clause-recorded
returns-clause-recorded c =
    c.push.ensures.items
    ∙ ap (λ r. if is_ok r then c.args.done.now.items ++ c.record_of-recorded.result ∷ [] else c.args.done.now.items) c.unwrap.ensures
    ∙ ap (λ (d : Done). c.args.done.now.items ++ d ∷ []) c.record_of-recorded.ensures
