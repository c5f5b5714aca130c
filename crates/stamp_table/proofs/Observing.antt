-- The table takes the events that fit, whatever past it stands for.
use Rattle.std.proofs.Common.{ap, ◌++◌, ◌∙◌, sym}
use Rattle.trace_model.specs.Profile.{done}
use Rattle.stamp_table.specs.Observing.{TakesEvents}
use Rattle.stamp_table.proofs.Room.{allows_what_may_follow, fits_by_frames}
use Rattle.stamp_table.proofs.Runs.{stands_on, finishes_what_ends}

pub takes_events : TakesEvents
takes_events most e table may =
    let allowed = (allows_what_may_follow e table may.past may.now.agrees).1 may.formed in
    record {
      taken = λ some past s.
          let fits = fits_by_frames most e table past s ∙ some in
          (stands_on most e table past ((allows_what_may_follow e table past s.agrees).0 allowed) fits s, fits);
      gained = λ past s.
          ap (λ ds. done past ++ ds) (sym (finishes_what_ends most e table past ((allows_what_may_follow e table past s.agrees).0 allowed) s.agrees));
      refused = λ none past s. (s, fits_by_frames most e table past s ∙ none);
    }
