use Rattle.std.proofs.Common.{ap₂, ◌∙◌, ◌||◌}
use Rattle.std.proofs.lemmas.Result.{IfOk-weaker}
use Rattle.clap.specs.Words.{with_rule}
use Rattle.command_line.specs.App.{replay_app}
use Rattle.command_line.proofs.app.replay_subcommand.Goals as goal

pub returns-clause-app : goal.returns-clause-app
unfolding replay_app
returns-clause-app c =
    let one = c.in_ok-arg.ensures.shape c.value_option.ensures.local ∙ ap₂ with_rule c.new.ensures.app c.value_option.ensures.rule in
    let two = c.in_ok-arg-2.ensures.shape c.flag.ensures.local ∙ ap₂ with_rule one c.flag.ensures.rule in
    let three = c.in_ok-arg-3.ensures.shape c.output_option.ensures.local ∙ ap₂ with_rule two c.output_option.ensures.rule in
    IfOk-weaker c.arg-4.result _ _ (λ r h. h.shape c.required_value.ensures.local ∙ ap₂ with_rule three c.required_value.ensures.rule) c.arg-4.ensures

pub returns-clause-local : goal.returns-clause-local
returns-clause-local c =
    let one = c.in_ok-arg.ensures.globals ∙ ap₂ ◌||◌ c.new.ensures.local c.value_option.ensures.local in
    let two = c.in_ok-arg-2.ensures.globals ∙ ap₂ ◌||◌ one c.flag.ensures.local in
    let three = c.in_ok-arg-3.ensures.globals ∙ ap₂ ◌||◌ two c.output_option.ensures.local in
    IfOk-weaker c.arg-4.result _ _ (λ r h. h.globals ∙ ap₂ ◌||◌ three c.required_value.ensures.local) c.arg-4.ensures
