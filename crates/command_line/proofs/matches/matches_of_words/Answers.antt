use Rattle.std.proofs.Common.{ap, ◌∙◌, map}
use Rattle.std.proofs.lemmas.Result.{IfErr-weaker, IfOk-weaker}
use Rattle.std.specs.String.{string_bytes}
use Rattle.clap.specs.Words.{App, is_simple, subcommand_of, takes}
use Rattle.command_line.proofs.Fixed.{the_app_is_simple}
use Rattle.command_line.proofs.matches.matches_of_words.Goals as goal

pub returns-clause-rows : goal.returns-clause-rows
returns-clause-rows c =
    let is = c.in_ok-whole_command.ensures in
    let words = map string_bytes c.args.words.now in
    let parse = c.try_get_matches_from in
    IfOk-weaker parse.result _ _ (λ m h. (h (ap is_simple is ∙ the_app_is_simple)).1 ∙ ap (λ (a : App). subcommand_of a words) is) parse.ensures.matches

pub returns-clause-passes : goal.returns-clause-passes
returns-clause-passes c =
    let is = c.in_ok-whole_command.ensures in
    let words = map string_bytes c.args.words.now in
    let parse = c.try_get_matches_from in
    IfErr-weaker parse.result _ _ (λ e h t. h (ap (λ (a : App). takes a words) is ∙ t)) parse.ensures.passes
