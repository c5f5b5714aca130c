use Rattle.std.proofs.Common.{[], refl}
use Rattle.run_profile.proofs.profile.Profile.new.Goals as goal

pub returns : goal.returns
returns g c = record {
  stands = c.in_ok-profiler.ensures.stands c.requires.stamps;
  earlier = [];
  all = refl;
  ended_is = refl;
  kept = c.requires.nothing;
  steps_are = refl;
}
