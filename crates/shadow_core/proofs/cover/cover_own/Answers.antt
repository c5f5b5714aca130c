use Rattle.shadow_core.proofs.Reading.{not_changed}
use Rattle.shadow_core.proofs.cover.cover_own.Goals as goal

pub returns-then-covers-clause-changed : goal.returns-then-covers-clause-changed
returns-then-covers-clause-changed g c = not_changed c.args.threads.now c.args.tid c.requires.lives
