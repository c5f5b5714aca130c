use Rattle.std.proofs.Common.{[], refl, ◌∙◌}
use Rattle.cache_profile.proofs.Groups.{none_by_routine}
use Rattle.cache_profile.proofs.profile.CacheProfile.new.Goals as goal

pub returns : goal.returns
returns g c = record {
  shape_is = c.in_ok-new.ensures.shape ∙ c.requires;
  cache = c.in_ok-new.ensures.empty;
  calls = c.new-2.ensures;
  routines = c.in_ok-new-2.ensures ∙ none_by_routine;
  steps_are = refl;
  progress_is = c.new-4.ensures;
}

pub invariant_of-result : goal.invariant_of-result
invariant_of-result g c = ∣ record {
  past = [];
  now = record {
    shape_is = c.in_ok-new.ensures.shape ∙ c.requires;
    cache = c.in_ok-new.ensures.empty;
    calls = c.new-2.ensures;
    routines = c.in_ok-new-2.ensures ∙ none_by_routine;
    steps_are = refl;
    progress_is = c.new-4.ensures;
  };
} ∣₁
