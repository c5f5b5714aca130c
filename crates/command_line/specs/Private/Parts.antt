-- Parts of the command line, as they are made one after another.
use Rattle.std.specs.Prelude.{codes}
use Rattle.clap.specs.Words.{App, Text, new_app, with_rule}
use Rattle.command_line.specs.App.{value_rule}

-- a command of this name, with how a guest is run
abbrev pub options_app : Text → App
options_app name = with_rule (with_rule (with_rule (with_rule (new_app name) (value_rule (codes "stdin"))) (value_rule (codes "quantum")))
    (value_rule (codes "schedule"))) (value_rule (codes "budget"))
