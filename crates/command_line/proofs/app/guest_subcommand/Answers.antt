use Rattle.std.proofs.Common.{ap₂, ◌∙◌, ◌||◌}
use Rattle.std.proofs.lemmas.Result.{IfOk-weaker}
use Rattle.clap.specs.Words.{with_rule}
use Rattle.command_line.specs.App.{guest_app}
use Rattle.command_line.proofs.app.guest_subcommand.Goals as goal

pub returns-clause-app : goal.returns-clause-app
unfolding guest_app
returns-clause-app c =
    let five = c.in_ok-arg.ensures.shape c.output_option.ensures.local ∙ ap₂ with_rule c.in_ok-with_options.ensures.app c.output_option.ensures.rule in
    let six = c.in_ok-arg-2.ensures.shape c.required_value.ensures.local ∙ ap₂ with_rule five c.required_value.ensures.rule in
    IfOk-weaker c.arg-3.result _ _ (λ r h. h.shape c.further_words.ensures.local ∙ ap₂ with_rule six c.further_words.ensures.rule) c.arg-3.ensures

pub returns-clause-local : goal.returns-clause-local
returns-clause-local c =
    let five = c.in_ok-arg.ensures.globals ∙ ap₂ ◌||◌ c.in_ok-with_options.ensures.local c.output_option.ensures.local in
    let six = c.in_ok-arg-2.ensures.globals ∙ ap₂ ◌||◌ five c.required_value.ensures.local in
    IfOk-weaker c.arg-3.result _ _ (λ r h. h.globals ∙ ap₂ ◌||◌ six c.further_words.ensures.local) c.arg-3.ensures
