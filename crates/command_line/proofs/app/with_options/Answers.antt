use Rattle.std.proofs.Common.{ap₂, ◌∙◌, ◌||◌}
use Rattle.std.proofs.lemmas.Result.{IfOk-weaker}
use Rattle.clap.specs.Words.{with_rule}
use Rattle.command_line.proofs.app.with_options.Goals as goal

pub returns-clause-app : goal.returns-clause-app
returns-clause-app c =
    let one = c.in_ok-arg.ensures.shape c.value_option.ensures.local ∙ ap₂ with_rule c.new.ensures.app c.value_option.ensures.rule in
    let two = c.in_ok-arg-2.ensures.shape c.value_option-2.ensures.local ∙ ap₂ with_rule one c.value_option-2.ensures.rule in
    let three = c.in_ok-arg-3.ensures.shape c.value_option-3.ensures.local ∙ ap₂ with_rule two c.value_option-3.ensures.rule in
    IfOk-weaker c.arg-4.result _ _ (λ r h. h.shape c.value_option-4.ensures.local ∙ ap₂ with_rule three c.value_option-4.ensures.rule) c.arg-4.ensures

pub returns-clause-local : goal.returns-clause-local
returns-clause-local c =
    let one = c.in_ok-arg.ensures.globals ∙ ap₂ ◌||◌ c.new.ensures.local c.value_option.ensures.local in
    let two = c.in_ok-arg-2.ensures.globals ∙ ap₂ ◌||◌ one c.value_option-2.ensures.local in
    let three = c.in_ok-arg-3.ensures.globals ∙ ap₂ ◌||◌ two c.value_option-3.ensures.local in
    IfOk-weaker c.arg-4.result _ _ (λ r h. h.globals ∙ ap₂ ◌||◌ three c.value_option-4.ensures.local) c.arg-4.ensures
