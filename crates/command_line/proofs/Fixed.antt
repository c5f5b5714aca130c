-- What holds of the fixed command.
use Rattle.std.proofs.Common.{◌≡◌, refl, true}
use Rattle.clap.specs.Words.{is_simple}
use Rattle.clap.proofs.OnLiterals.{clap_on_literals}
use Rattle.command_line.specs.App.{the_app, top_app, guest_app, demo_app, replay_app}

pub the_app_is_simple : is_simple the_app ≡ true
unfolding the_app top_app guest_app demo_app replay_app clap_on_literals
the_app_is_simple = refl
