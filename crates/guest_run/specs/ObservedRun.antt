-- The run as it is observed: it ends where its past no longer fits what observes it, as stamps that can tell no more open
-- activations apart. A past is the list of the events so far, the newest first.
use Rattle.std.specs.Prelude.{ℕ, Bool, if◌then◌else◌, List, [], ◌∷◌}
use Rattle.guest_words.specs.declared.endings.Finish.{Finish}
use Rattle.guest_words.specs.declared.endings.Finish.TheVariants.{Deep}
use Rattle.trace_model.specs.declared.event_kinds.Event.{Event}
use Rattle.trace_model.specs.declared.event_kinds.Event.TheVariants.{Start}
use Rattle.trace_model.specs.Cut.{cut, past_after}
use Rattle.guest_run.specs.Run.{Move, WrittenRun, events_of}

-- the past before the first move: thread 1 has started at the entry
abbrev pub first_past : ℕ → List Event
first_past entry = Start 1 entry ∷ []

-- the moves up to and with the first after which the past does not fit
abbrev pub moves_kept : (List Event → Bool) → List Event → List Move → List Move
moves_kept fits past [] = []
moves_kept fits past (move ∷ moves) =
    let next = past_after past move.events in
    move ∷ (if fits next then moves_kept fits next moves else [])

-- A run with its trace, the newest event first.
pub record ObservedRun : Type 0 where
  pub moves : List Move
  pub past : List Event
  pub finish : Finish

-- The observed run, from the past before its first move on: the run itself where its whole past fits; else its moves up to and
-- with the one after which it does not, the trace as long as it fits, and the end `Deep`.
unfoldable pub observed_run : (List Event → Bool) → List Event → WrittenRun → ObservedRun
observed_run fits past run =
    let whole = past_after past (events_of run.moves) in
    record {
      moves = moves_kept fits past run.moves;
      past = cut fits whole;
      finish = if fits whole then run.finish else Deep;
    }
