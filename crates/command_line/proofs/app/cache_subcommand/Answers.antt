use Rattle.std.proofs.Common.{ap₂, ◌∙◌, ◌||◌}
use Rattle.std.proofs.lemmas.Result.{IfOk-weaker}
use Rattle.clap.specs.Words.{with_rule}
use Rattle.command_line.proofs.app.cache_subcommand.Goals as goal

pub returns-clause-app : goal.returns-clause-app
returns-clause-app c =
    let one = c.in_ok-arg.ensures.shape c.required_option.ensures.local ∙ ap₂ with_rule c.in_ok-guest_subcommand.ensures.app c.required_option.ensures.rule in
    let two = c.in_ok-arg-2.ensures.shape c.required_option-2.ensures.local ∙ ap₂ with_rule one c.required_option-2.ensures.rule in
    IfOk-weaker c.arg-3.result _ _ (λ r h. h.shape c.required_option-3.ensures.local ∙ ap₂ with_rule two c.required_option-3.ensures.rule) c.arg-3.ensures

pub returns-clause-local : goal.returns-clause-local
returns-clause-local c =
    let one = c.in_ok-arg.ensures.globals ∙ ap₂ ◌||◌ c.in_ok-guest_subcommand.ensures.local c.required_option.ensures.local in
    let two = c.in_ok-arg-2.ensures.globals ∙ ap₂ ◌||◌ one c.required_option-2.ensures.local in
    IfOk-weaker c.arg-3.result _ _ (λ r h. h.globals ∙ ap₂ ◌||◌ two c.required_option-3.ensures.local) c.arg-3.ensures
