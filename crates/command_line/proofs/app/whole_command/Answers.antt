use Rattle.command_line.specs.App.{cache_app, contexts_app, demo_app, replay_app, run_app, the_app, top_app, trace_app}
use Rattle.command_line.proofs.app.whole_command.Goals as goal

pub returns : goal.returns
unfolding the_app
returns c =
    let one = c.in_ok-command.ensures top_app run_app c.top_command.ensures.app c.run_subcommand.ensures.app c.run_subcommand.ensures.local in
    let two = c.in_ok-command-2.ensures _ demo_app one c.demo_subcommand.ensures.app c.demo_subcommand.ensures.local in
    let three = c.in_ok-command-3.ensures _ trace_app two c.guest_subcommand.ensures.app c.guest_subcommand.ensures.local in
    let four = c.in_ok-command-4.ensures _ cache_app three c.cache_subcommand.ensures.app c.cache_subcommand.ensures.local in
    let five = c.in_ok-command-5.ensures _ replay_app four c.replay_subcommand.ensures.app c.replay_subcommand.ensures.local in
    c.with_made-6.ensures _ contexts_app five c.contexts_subcommand.ensures.app c.contexts_subcommand.ensures.local
